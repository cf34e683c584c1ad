use Rattle.lines.proofs.Ends.{part_ends}
use Rattle.lines.proofs.parts.part_end.Goals as goal

pub returns : goal.returns
returns c =
    let got = c.in-Some.ensures.lookup.0 in
    rw (c.unwrap_or.ensures, c.first_separator.ensures) (part_ends c.args.bytes.now c.in-Some.rest.now c.args.from c.args.separator got.0 got.2)
