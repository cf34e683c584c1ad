use Rattle.std.proofs.Common.{◌≡◌, ◌∷◌, [], length, sym, subst}
use Rattle.frame.specs.Parts.{sum_of, terms_of}
use Rattle.lines.specs.Appending.{Room, Puts}
use Rattle.lines.specs.Frames.{line_of}
use Rattle.lines.proofs.Appends.{room_terms}
use Rattle.lines.proofs.writing.put_frame.Goals as goal

pub put_terms-requires : goal.put_terms-requires
put_terms-requires c =
    let f = c.args.frame.now in
    let as_read : line_of c.sum.result c.terms.result.now ≡ line_of (sum_of f) (terms_of f) = λ i. line_of (c.sum.ensures i) (c.terms.ensures i) in
    let room = subst (λ l. Room c.args.out.now (length l)) (sym as_read) c.requires in
    let letter : Puts c.args.out.now c.push_reserved.new.self (70 ∷ []) = record { items = c.push_reserved.ensures.items; len = c.push_reserved.ensures.len; capacity = c.push_reserved.ensures.capacity } in
    room_terms _ _ _ c.sum.result c.terms.result.now room letter c.put_field.ensures
