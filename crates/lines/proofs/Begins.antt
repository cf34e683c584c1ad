-- How a line begins: the letter of its kind, and the fields behind it. Assumes nothing.
use Rattle.std.proofs.Common.{◌≡◌, ℕ, zero, suc, ◌+◌, ◌<◌, ◌≤◌, Bool, true, false, cond, eqb, leb, List, [], ◌∷◌, length, drop, Some, None, Option, sym, refl, ap, ◌∙◌, arith}
use Rattle.std.specs.Option.{option_and_then}
use Rattle.std.proofs.lemmas.Bool.{eqb-true, le-leb, lt-leb, cond-true, cond-false}
use Rattle.std.proofs.lemmas.Option.{none-some, option_and_then_some}
use Rattle.lines.specs.declared.kinds.LineKind.{LineKind}
use Rattle.lines.specs.declared.kinds.LineKind.TheVariants.{Open, Frame}
use Rattle.lines.specs.Fields.{Whole, AllWhole, split, join, placed, fields_of}
use Rattle.lines.specs.Kinds.{kind_letter, kind_of, line_kind}
use Rattle.lines.specs.Tokens.{letter_of, first_letter}
use Rattle.lines.proofs.Cuts.{split-join, join-split}

-- a field that is a letter
picked : (a b : Bool) (x y : ℕ) → cond a (cond b (Some x) None) None ≡ Some y → x ≡ y
picked true true x y h = cc
picked true false x y h = absurd (none-some y h)
picked false b x y h = absurd (none-some y h)

letter_is : (p : List ℕ) (l : ℕ) → letter_of p ≡ Some l → p ≡ l ∷ []
letter_is [] l h = absurd (none-some l h)
letter_is (b ∷ []) l h = ap (λ c. c ∷ []) (picked (leb 65 b) (leb b 90) b l h)
letter_is (b ∷ c ∷ cs) l h = absurd (none-some l h)

-- what a letter chooses has that letter: the first of some, or one of the rest
module _ {K : Type 0} (letter : K → ℕ) where
  chosen_by : (x k : K) (l : ℕ) (b : Bool) (rest : Option K) → (b ≡ true → l ≡ letter x) → (rest ≡ Some k → l ≡ letter k) → cond b (Some x) rest ≡ Some k → l ≡ letter k
  chosen_by x k l true rest first others h = let e : x ≡ k = cc in first refl ∙ ap letter e
  chosen_by x k l false rest first others h = others h

  pub chosen : (x k : K) (l : ℕ) (rest : Option K) → (rest ≡ Some k → l ≡ letter k) → cond (eqb l (letter x)) (Some x) rest ≡ Some k → l ≡ letter k
  chosen x k l rest = chosen_by x k l (eqb l (letter x)) rest (eqb-true l (letter x))

  -- so a field that chooses is that letter
  pub field_is : (of : ℕ → Option K) → ((k : K) (l : ℕ) → of l ≡ Some k → l ≡ letter k) → (p : List ℕ) (k : K) → option_and_then of (letter_of p) ≡ Some k → p ≡ letter k ∷ []
  field_is of back p k h = option_and_then_some of (letter_of p) k h (λ l is e. letter_is p l is ∙ ap (λ c. c ∷ []) (back k l e))

kind_back : (k : LineKind) (l : ℕ) → kind_of l ≡ Some k → l ≡ kind_letter k
kind_back k l = chosen kind_letter Open k l _ (chosen kind_letter Frame k l _ (λ h. absurd (none-some k h)))

-- the line has this kind, and its parts behind the letter are `parts`
pub record Begins (line : List ℕ) (k : LineKind) : Type 0 where
  pub parts : List (List ℕ)
  pub is : line ≡ join 44 ((kind_letter k ∷ []) ∷ parts)
  pub rest : drop 1 (fields_of line) ≡ placed 2 parts

begun : (line : List ℕ) (k : LineKind) (qs : List (List ℕ)) → split 44 line ≡ qs → option_and_then kind_of (first_letter (placed 0 qs)) ≡ Some k → Begins line k
begun line k [] cut h = absurd (none-some k h)
begun line k (p ∷ ps) cut h =
    let is = field_is kind_letter kind_of kind_back p k h in
    record {
      parts = ps;
      is = sym (join-split 44 line) ∙ ap (join 44) cut ∙ ap (λ q. join 44 (q ∷ ps)) is;
      rest = ap (λ qs. drop 1 (placed 0 qs)) cut ∙ ap (λ q. placed (suc (0 + length q)) ps) is;
    }

short_known : (b : Bool) (o : Option LineKind) (k : LineKind) → cond b o None ≡ Some k → o ≡ Some k
short_known true o k h = h
short_known false o k h = absurd (none-some k h)

pub begins : (line : List ℕ) (k : LineKind) → line_kind line ≡ Some k → Begins line k
begins line k h = begun line k (split 44 line) refl (short_known (leb (length line) 256) _ k h)

-- the kind of a line that is written
letter_kind : (k : LineKind) → option_and_then kind_of (letter_of (kind_letter k ∷ [])) ≡ Some k
letter_kind Open = refl
letter_kind Frame = refl

pub one_whole : (l : ℕ) → (l ≡ 44 → ⊥) → Whole 44 (l ∷ [])
one_whole l other zero h e = other e
one_whole l other (suc k) h e = absurd (omega arith)

kind_whole : (k : LineKind) → Whole 44 (kind_letter k ∷ [])
kind_whole Open = one_whole 79 (λ e. omega arith)
kind_whole Frame = one_whole 70 (λ e. omega arith)

module _ (k : LineKind) (parts : List (List ℕ)) (whole : AllWhole 44 parts) where
  cut : split 44 (join 44 ((kind_letter k ∷ []) ∷ parts)) ≡ (kind_letter k ∷ []) ∷ parts
  cut = split-join 44 (kind_letter k ∷ []) parts (kind_whole k, whole)

  pub written_kind : length (join 44 ((kind_letter k ∷ []) ∷ parts)) ≤ 256 → line_kind (join 44 ((kind_letter k ∷ []) ∷ parts)) ≡ Some k
  written_kind short = cond-true _ _ _ (le-leb _ 256 short) ∙ ap (λ qs. option_and_then kind_of (first_letter (placed 0 qs))) cut ∙ letter_kind k

  pub written_rest : drop 1 (fields_of (join 44 ((kind_letter k ∷ []) ∷ parts))) ≡ placed 2 parts
  written_rest = ap (λ qs. drop 1 (placed 0 qs)) cut

-- a line over 256 bytes has no kind
pub long_unknown : (line : List ℕ) → 256 < length line → line_kind line ≡ None
long_unknown line h = cond-false (leb (length line) 256) _ _ (lt-leb (length line) 256 h)
