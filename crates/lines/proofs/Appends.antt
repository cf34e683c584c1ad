-- What lines take, and how they are appended in steps. Assumes nothing.
use Rattle.std.proofs.Common.{◌≡◌, ℕ, ◌+◌, ◌^◌, ◌<◌, ◌≤◌, List, [], ◌∷◌, ◌++◌, length, drop, vec_items, decimal, Option, Vec, ap, ◌∙◌, arith, append_assoc, append-nil, length-append}
use Rattle.std.proofs.lemmas.List.{drop_more}
use Rattle.std.proofs.lemmas.Fmt.{length-decimal-le}
use Rattle.frame.specs.declared.terms.Term.{Term}
use Rattle.frame.specs.declared.refusals.Layer.{Layer}
use Rattle.frame.specs.declared.refusals.Layer.TheVariants.{Line, Frame, Block}
use Rattle.frame.specs.Refusals.{RefusalCase, layer_at}
use Rattle.lines.specs.declared.kinds.LineKind.{LineKind}
use Rattle.lines.specs.Answers.{layer_name, accepted_line, refused_line}
use Rattle.frame.specs.Frames.{no_term, minute_at, weight_at}
use Rattle.std.specs.declared.alloc.Global.{Global}
use Rattle.lines.specs.Appending.{Room, Puts}
use Rattle.lines.specs.Frames.{line_of}
use Rattle.lines.specs.Writing.{terms_text}

pub puts_more : (u v w : Vec ℕ Global) (xs ys : List ℕ) → Puts u v xs → Puts v w ys → Puts u w (xs ++ ys)
puts_more u v w xs ys p q =
    record {
      items = q.items ∙ ap (λ zs. zs ++ ys) p.items ∙ append_assoc (vec_items u) xs ys;
      len = omega (arith, p.len, q.len, length-append xs ys);
      capacity = q.capacity ∙ p.capacity;
    }

-- `done` is appended, and what is left of all the bytes begins with `piece`
module _ (u v : Vec ℕ Global) (done piece rest all : List ℕ) (room : Room u (length all)) (put : Puts u v done) (is : done ++ (piece ++ rest) ≡ all) where
  pub room_for : Room v (length piece)
  room_for = omega (arith, put.len, put.capacity, ap length is, length-append done (piece ++ rest), length-append piece rest)

  pub left_after : (done ++ piece) ++ rest ≡ all
  left_after = append_assoc done piece rest ∙ is

pub term_next : (ts : List Term) (i : ℕ) → i < length ts → terms_text (drop i ts) ≡ (44 ∷ decimal (minute_at ts i)) ++ ((44 ∷ decimal (weight_at ts i)) ++ terms_text (drop (i + 1) ts))
term_next ts i h = ap terms_text (drop_more ts i no_term h)

-- there is room for the terms of a frame's line behind its sum
pub room_terms : (u v w : Vec ℕ Global) (s : ℕ) (ts : List Term) → Room u (length (line_of s ts)) → Puts u v (70 ∷ []) → Puts v w (44 ∷ decimal s) → Room w (length (terms_text ts))
room_terms u v w s ts room letter sum =
    room_for u w (70 ∷ 44 ∷ decimal s) (terms_text ts) [] (line_of s ts) room (puts_more u v w (70 ∷ []) (44 ∷ decimal s) letter sum) (ap (λ l. 70 ∷ 44 ∷ (decimal s ++ l)) (append-nil (terms_text ts)))

-- the numbers of a refusal
pub short_decimals : (number place : ℕ) → number < 256 → place < 2 ^ 64 → (length (decimal number) ≤ 3) × (length (decimal place) ≤ 20)
short_decimals number place n p = (length-decimal-le 3 number (omega arith) (omega arith) (omega arith), length-decimal-le 20 place (omega arith) (omega arith) (omega arith))

-- the answers to lines are shorter than a line may be
name_short : (l : Layer) → length (layer_name l) ≤ 5
name_short Line = omega arith
name_short Frame = omega arith
name_short Block = omega arith

pub accepted_short : (kind : Option LineKind) (n : ℕ) → n < 2 ^ 64 → length (accepted_line kind n) ≤ 256
accepted_short kind n h =
    let number = (short_decimals 0 n (omega arith) h).1 in
    simp length-append (omega arith)

pub refused_short : (kind : Option LineKind) (r : RefusalCase) → r.number < 256 → r.place < 2 ^ 64 → length (refused_line kind r) ≤ 256
refused_short kind r n p =
    let name = name_short (layer_at r.number) in
    let numbers = short_decimals r.number r.place n p in
    simp length-append (omega (arith, numbers.0, numbers.1))
