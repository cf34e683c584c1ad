use Rattle.std.proofs.Common.{◌∙◌, ◌++◌, take, ap}
use Rattle.framelog.proofs.Kept.{kept_front}
use Rattle.framelog.proofs.buffers.LineBuffer.extend.Goals as goal

pub returns : goal.returns
returns c =
    let part = c.args.part.now in
    rw c.unwrap.ensures at c.try_extend_from_slice.ensures.ok
    ∙ ap (λ n. c.self.inside.bytes.items ++ take n part) c.min-count.ensures
    ∙ kept_front 257 c.remaining_capacity.result _ part c.remaining_capacity.ensures
    ∙ ap (λ l. take 257 (l ++ part)) c.self.view_is
