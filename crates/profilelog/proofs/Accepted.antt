-- Which lines a session accepts. Assumes nothing.
use Rattle.std.proofs.Common.{◌≡◌, ℕ, Bool, true, false, ◌||◌, ltb, List, length, Some, None, Ok, Err, Option, Result, sym, refl, ap, ◌∙◌, true≢false, arith}
use Rattle.std.proofs.lemmas.Bool.{ltb-false, le-ltb, cond-true}
use Rattle.frame.specs.declared.terms.Term.{Term}
use Rattle.frame.specs.Refusals.{RefusalCase}
use Rattle.frame.specs.Orders.{refuse, when}
use Rattle.frame.proofs.Apart.{err_ok}
use Rattle.lines.specs.declared.kinds.LineKind.{LineKind}
use Rattle.lines.specs.declared.openings.Opening.{Opening}
use Rattle.lines.specs.Entries.{Said, opens, carries, read_entry}
use Rattle.lines.specs.Kinds.{line_kind}
use Rattle.lines.specs.Reading.{content, map_ok, and_then}
use Rattle.lines.proofs.Exact.{opened}
use Rattle.lines.proofs.Opened.{kind_said, kind_read, reads_entry}
use Rattle.rows.specs.Systems.{System, Row}
use Rattle.rows.specs.Ledgers.{take_answer, after_take}
use Rattle.rows.proofs.Beyond.{taken_below, taken_room, is_taken}
use Rattle.profilelog.specs.Hours as hours
use Rattle.profilelog.specs.Hours.{OpenHour}
use Rattle.profilelog.specs.Sessions.{in_turn, heard_as, heard, opened_or, row, entry_answer, after_entry, line_answer, after_heard, after_line}
use Rattle.profilelog.specs.Laws.{new_hour, row_more, OpensHour, FillsHour, SessionLaws}

-- what is heard is what the line says, in its turn
heard_says : (hour : Option OpenHour) (k : Option LineKind) (r : Result Said RefusalCase) (entry : Said) → (r ≡ Ok entry → k ≡ Some (kind_said entry)) → heard_as hour k r ≡ Ok entry → (r ≡ Ok entry) × (in_turn hour (kind_said entry) ≡ true)
heard_says hour None r entry kind h = absurd (err_ok _ _ h)
heard_says hour (Some k) r entry kind h =
    let passed = opened (in_turn hour k) r _ _ h in
    let same : k ≡ kind_said entry = let e = kind passed.1 in cc in
    (passed.1, ap (in_turn hour) (sym same) ∙ passed.0)

says : (hour : Option OpenHour) (line : List ℕ) (entry : Said) → heard hour line ≡ Ok entry → (read_entry line ≡ Ok entry) × (in_turn hour (kind_said entry) ≡ true)
says hour line entry = heard_says hour (line_kind line) (read_entry line) entry (kind_read line entry)

hears : (hour : Option OpenHour) (line : List ℕ) (entry : Said) → read_entry line ≡ Ok entry → in_turn hour (kind_said entry) ≡ true → heard hour line ≡ Ok entry
hears hour line entry reads turn = ap (λ k. heard_as hour k (read_entry line)) (kind_read line entry reads) ∙ cond-true (in_turn hour (kind_said entry)) _ _ turn ∙ reads

-- an accepted line has been heard
accepted : (hour : Option OpenHour) (r : Result Said RefusalCase) (n : ℕ) → and_then r (entry_answer hour) ≡ Ok n → (entry : Said) × (r ≡ Ok entry) × (entry_answer hour entry ≡ Ok n)
accepted hour (Ok entry) n h = (entry, refl, h)
accepted hour (Err e) n h = absurd (err_ok _ _ h)

-- the first line
width_passed : (a b : Bool) (w : ℕ) (f : ℕ → OpenHour) (n : ℕ) → map_ok (λ h. h.system.width) (map_ok f (refuse 16 (when (a || b)) (Ok w))) ≡ Ok n → (a ≡ false) × (b ≡ false)
width_passed false false w f n h = (refl, refl)
width_passed false true w f n h = absurd (err_ok _ _ h)
width_passed true b w f n h = absurd (err_ok _ _ h)

module _ (line : List ℕ) (o : Opening) (opens_it : OpensHour line o) where
  made : hours.opened o ≡ Ok (new_hour o)
  made = rw (le-ltb o.width 1 opens_it.some, le-ltb 64 o.width opens_it.most) refl

  heard_opening : heard None line ≡ Ok (opens o)
  heard_opening = hears None line (opens o) ((reads_entry line (read_entry line) refl).each_opening o (omega (arith, opens_it.most)) opens_it.is) refl

  hour_opened : (line_answer None line ≡ Ok o.width) × (after_line None line ≡ Some (new_hour o))
  hour_opened = (
    ap (λ r. and_then r (entry_answer None)) heard_opening ∙ ap (map_ok (λ h. h.system.width)) made,
    ap (after_heard None) heard_opening ∙ ap (λ r. opened_or r None) made,
  )

opening_only : (line : List ℕ) (n : ℕ) (entry : Said) → read_entry line ≡ Ok entry → entry_answer None entry ≡ Ok n → (o : Opening) × OpensHour line o
opening_only line n (carries c) reads h = absurd (err_ok _ _ h)
opening_only line n (opens o) reads h =
    let got = width_passed (ltb o.width 1) (ltb 64 o.width) o.width _ n h in
    (o, record { is = ((reads_entry line (read_entry line) refl).only_opening o reads).1; some = ltb-false o.width 1 got.0; most = ltb-false 64 o.width got.1 })

only_opened : (line : List ℕ) (n : ℕ) → line_answer None line ≡ Ok n → (o : Opening) × OpensHour line o
only_opened line n h =
    let got = accepted None (heard None line) n h in
    opening_only line n got.0 (says None line got.0 got.1).0 got.2

-- a frame's line
module _ (h : OpenHour) (line : List ℕ) (s : ℕ) (ts : List Term) (fills : FillsHour h line s ts) where
  takes : take_answer h.system 96 (row (content s ts)) ≡ Ok (length h.system.rows)
  takes = is_taken h.system 96 (row (content s ts)) fills.below fills.room

  heard_frame : heard (Some h) line ≡ Ok (carries (content s ts))
  heard_frame = hears (Some h) line (carries (content s ts)) ((reads_entry line (read_entry line) refl).each_frame s ts fills.frame fills.is) refl

  hour_filled : (line_answer (Some h) line ≡ Ok (length h.system.rows)) × (after_line (Some h) line ≡ Some (row_more h s ts))
  hour_filled = (
    ap (λ r. and_then r (entry_answer (Some h))) heard_frame ∙ takes,
    ap (after_heard (Some h)) heard_frame ∙ ap (λ a. Some (record { field = h.field; system = after_take a h.system (row (content s ts)) })) takes,
  )

frame_only : (h : OpenHour) (line : List ℕ) (n : ℕ) (entry : Said) → read_entry line ≡ Ok entry → in_turn (Some h) (kind_said entry) ≡ true → entry_answer (Some h) entry ≡ Ok n → (s : ℕ) × (ts : List Term) × FillsHour h line s ts
frame_only h line n (opens o) reads turn a = absurd (true≢false (sym turn))
frame_only h line n (carries c) reads turn a =
    let got = (reads_entry line (read_entry line) refl).only_frame c.sum c.terms reads in (
      c.sum,
      c.terms,
      record {
        frame = got.0;
        is = got.1;
        below = taken_below h.system 96 (row c) n (sym a);
        room = taken_room h.system 96 (row c) n (sym a);
      },
    )

only_filled : (h : OpenHour) (line : List ℕ) (n : ℕ) → line_answer (Some h) line ≡ Ok n → (s : ℕ) × (ts : List Term) × FillsHour h line s ts
only_filled h line n a =
    let got = accepted (Some h) (heard (Some h) line) n a in
    let said = says (Some h) line got.0 got.1 in
    frame_only h line n got.0 said.0 said.1 got.2

-- a refused line
opening_refused : (r : Result OpenHour RefusalCase) (hour : Option OpenHour) (e : RefusalCase) → map_ok (λ h. h.system.width) r ≡ Err e → opened_or r hour ≡ hour
opening_refused (Ok h) hour e a = absurd (err_ok _ _ (sym a))
opening_refused (Err d) hour e a = refl

row_refused : (a : Result ℕ RefusalCase) (S : System) (r : Row) (e : RefusalCase) → a ≡ Err e → after_take a S r ≡ S
row_refused (Ok n) S r e a = absurd (err_ok _ _ (sym a))
row_refused (Err d) S r e a = refl

entry_refused : (hour : Option OpenHour) (entry : Said) (e : RefusalCase) → entry_answer hour entry ≡ Err e → after_entry hour entry ≡ hour
entry_refused hour (opens o) e a = opening_refused (hours.opened o) hour e a
entry_refused None (carries c) e a = refl
entry_refused (Some h) (carries c) e a = ap (λ S. Some (record { field = h.field; system = S })) (row_refused (take_answer h.system 96 (row c)) h.system (row c) e a)

refused : (hour : Option OpenHour) (r : Result Said RefusalCase) (e : RefusalCase) → and_then r (entry_answer hour) ≡ Err e → after_heard hour r ≡ hour
refused hour (Ok entry) e a = entry_refused hour entry e a
refused hour (Err d) e a = refl

pub session_laws : SessionLaws
session_laws = record {
  opened = hour_opened;
  only_opened = only_opened;
  filled = hour_filled;
  only_filled = only_filled;
  refused = λ hour line e. refused hour (heard hour line) e;
}
