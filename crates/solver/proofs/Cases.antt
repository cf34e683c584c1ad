-- Outcomes and extents are told apart by their cases, and what the case whole says. Assumes nothing.
use Rattle.std.proofs.Common.{◌≡◌, ℕ, ◌+◌, ◌==◌, Bool, true, false, cond, List, [], ◌∷◌, refl, sym, ap, ◌∙◌, arith}
use Rattle.std.proofs.lemmas.Bool.{eqb-true}
use Rattle.solver.specs.declared.faults.Fault.{Fault}
use Rattle.solver.specs.declared.faults.Fault.TheVariants.{Missed, Zero, NoPlace}
use Rattle.solver.specs.declared.questions.Side.{Side}
use Rattle.solver.specs.declared.questions.Side.TheVariants as sides
use Rattle.solver.specs.declared.outcomes.Extent.{Extent}
use Rattle.solver.specs.declared.outcomes.Extent.TheVariants.{Whole, Part}
use Rattle.solver.specs.declared.outcomes.Outcome.{Outcome}
use Rattle.solver.specs.declared.outcomes.Outcome.TheVariants.{Solved, Contradiction, Failed}
use Rattle.solver.specs.Outcomes.{Case, outcome_case, extent_case, extent_of}

-- the first four values
abbrev pub first : List ℕ → ℕ
first [] = 0
first (v ∷ vs) = v

abbrev pub rest : List ℕ → List ℕ
rest [] = []
rest (v ∷ vs) = vs

abbrev pub second : List ℕ → ℕ
second vs = first (rest vs)

abbrev pub third : List ℕ → ℕ
third vs = first (rest (rest vs))

abbrev pub fourth : List ℕ → ℕ
fourth vs = first (rest (rest (rest vs)))

-- what a case tells of
abbrev pub fault_of : ℕ → ℕ → Fault
fault_of n i = cond (n == 1) (Missed i) (cond (n == 2) (Zero i) (NoPlace i))

abbrev pub side_of : ℕ → Side
side_of n = cond (n == 1) sides.Row sides.Column

abbrev pub outcome_of : Case → Outcome
outcome_of c =
    let vs = c.values in
    cond (c.number == 1) (Solved (record { pivots = first vs; questions = second vs }))
    (cond (c.number == 2) (Contradiction (record { pivots = first vs; questions = second vs }))
    (Failed (record { question = first vs; side = side_of (second vs); fault = fault_of (third vs) (fourth vs) })))

-- is the outcome itself
failed_own : (n : ℕ) (s : Side) (f : Fault) → outcome_of (outcome_case (Failed (record { question = n; side = s; fault = f }))) ≡ Failed (record { question = n; side = s; fault = f })
failed_own n sides.Row (Missed i) = refl
failed_own n sides.Row (Zero i) = refl
failed_own n sides.Row (NoPlace i) = refl
failed_own n sides.Column (Missed i) = refl
failed_own n sides.Column (Zero i) = refl
failed_own n sides.Column (NoPlace i) = refl

pub outcome_own : (o : Outcome) → outcome_of (outcome_case o) ≡ o
outcome_own (Solved c) = refl
outcome_own (Contradiction c) = refl
outcome_own (Failed f) = failed_own f.question f.side f.fault

pub outcomes_apart : (a b : Outcome) → outcome_case a ≡ outcome_case b → a ≡ b
outcomes_apart a b e = sym (outcome_own a) ∙ ap outcome_of e ∙ outcome_own b

abbrev extent_told : Case → Extent
extent_told c = cond (c.number == 1) Whole Part

extent_own : (e : Extent) → extent_told (extent_case e) ≡ e
extent_own Whole = refl
extent_own Part = refl

pub extents_apart : (a b : Extent) → extent_case a ≡ extent_case b → a ≡ b
extents_apart a b e = sym (extent_own a) ∙ ap extent_told e ∙ extent_own b

-- whole is pivots and notes that add up to the width
whole_test : (b : Bool) → extent_case Whole ≡ cond b (extent_case Whole) (extent_case Part) → b ≡ true
whole_test true e = refl
whole_test false e = let z : ◌≡◌ {A = ℕ} 1 2 = ap (λ (c : Case). c.number) e in absurd (omega arith)

pub whole_adds_up : (pivots noted width : ℕ) → extent_case Whole ≡ extent_of pivots noted width → pivots + noted ≡ width
whole_adds_up pivots noted width e = eqb-true (pivots + noted) width (whole_test (pivots + noted == width) e)
