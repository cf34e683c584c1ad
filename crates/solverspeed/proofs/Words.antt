-- What words say of rows, they say of no other rows. Assumes nothing.
use Rattle.std.proofs.Common.{◌≡◌, ℕ, suc, ◌+◌, ◌*◌, ◌<◌, List, [], ◌∷◌, ◌++◌, length, slice_index, slice_index_or, refl, sym, ap, ◌∙◌, arith}
use Rattle.frame.specs.declared.terms.Term.{Term}
use Rattle.frame.specs.Frames.{no_term}
use Rattle.rows.specs.Systems.{Row}
use Rattle.solverspeed.specs.Hours.{terms_words, row_words, rows_words}

pub terms_words-length : (ts : List Term) → length (terms_words ts) ≡ 2 * length ts
terms_words-length [] = refl
terms_words-length (t ∷ ts) = let e = terms_words-length ts in omega (arith, e)

-- the term at place k of words
abbrev pub pair_at : List ℕ → ℕ → Term
pair_at ws k = record { minute = slice_index ws (2 * k); weight = slice_index ws (2 * k + 1) }

later : (a b : ℕ) (ws : List ℕ) (k : ℕ) → pair_at (a ∷ b ∷ ws) (suc k) ≡ pair_at ws k
later a b ws k =
    let even : 2 * suc k ≡ suc (suc (2 * k)) = omega arith in
    let odd : 2 * suc k + 1 ≡ suc (suc (2 * k + 1)) = omega arith in
    ap (λ i. record { minute = slice_index (a ∷ b ∷ ws) i; weight = slice_index (a ∷ b ∷ ws) (2 * suc k + 1) }) even
    ∙ ap (λ i. record { minute = slice_index ws (2 * k); weight = slice_index (a ∷ b ∷ ws) i }) odd

-- terms that are read off words have these words
pub terms_words-read : (ts : List Term) (ws : List ℕ) → length ws ≡ 2 * length ts → ((k : ℕ) → k < length ts → slice_index_or ts k no_term ≡ pair_at ws k) → terms_words ts ≡ ws
terms_words-read [] [] e each = refl
terms_words-read [] (a ∷ ws) e each = absurd (omega (arith, e))
terms_words-read (t ∷ ts) [] e each = absurd (omega (arith, e))
terms_words-read (t ∷ ts) (a ∷ []) e each = absurd (omega (arith, e))
terms_words-read (t ∷ ts) (a ∷ b ∷ ws) e each =
    let head : t ≡ record { minute = a; weight = b } = each 0 (omega arith) in
    let rest : terms_words ts ≡ ws = terms_words-read ts ws (omega (arith, e)) (λ k h. each (suc k) (omega (arith, h)) ∙ later a b ws k) in
    ap (λ (u : Term). u.minute ∷ u.weight ∷ terms_words ts) head ∙ ap (λ us. a ∷ b ∷ us) rest

-- terms that words begin with, if as many, are the same, and so are the words behind them
pub terms_words-same : (ts us : List Term) (p q : List ℕ) → length ts ≡ length us → terms_words ts ++ p ≡ terms_words us ++ q → (ts ≡ us) × (p ≡ q)
terms_words-same [] [] p q l e = (refl, e)
terms_words-same [] (u ∷ us) p q l e = absurd (omega (arith, l))
terms_words-same (t ∷ ts) [] p q l e = absurd (omega (arith, l))
terms_words-same (t ∷ ts) (u ∷ us) p q l e =
    let minutes : t.minute ≡ u.minute = cc in
    let weights : t.weight ≡ u.weight = cc in
    let tails : terms_words ts ++ p ≡ terms_words us ++ q = cc in
    let r = terms_words-same ts us p q (omega (arith, l)) tails in
    (ap (λ m. record { minute = m; weight = t.weight } ∷ ts) minutes ∙ ap (λ w. record { minute = u.minute; weight = w } ∷ ts) weights ∙ ap (λ vs. u ∷ vs) r.0, r.1)

same_row : (r s : Row) → r.sum ≡ s.sum → r.terms ≡ s.terms → r ≡ s
same_row r s sums terms = ap (λ n. record { sum = n; terms = r.terms }) sums ∙ ap (λ ts. record { sum = s.sum; terms = ts }) terms

-- rows that words begin with are the same
pub row_words-same : (r s : Row) (p q : List ℕ) → row_words r p ≡ row_words s q → (r ≡ s) × (p ≡ q)
row_words-same r s p q e =
    let counts : length r.terms ≡ length s.terms = cc in
    let sums : r.sum ≡ s.sum = cc in
    let tails : terms_words r.terms ++ p ≡ terms_words s.terms ++ q = cc in
    let same = terms_words-same r.terms s.terms p q counts tails in
    (same_row r s sums same.0, same.1)

-- rows behind others
pub rows_words-append : (rs ss : List Row) (p : List ℕ) → rows_words (rs ++ ss) p ≡ rows_words rs (rows_words ss p)
rows_words-append [] ss p = refl
rows_words-append (r ∷ rs) ss p = ap (row_words r) (rows_words-append rs ss p)

-- where words go on behind rows that they begin with, there are more rows
pub more_rows : (rs ss : List Row) (rest : List ℕ) → 0 < length rest → rows_words rs rest ≡ rows_words ss [] → (r : Row) × (more : List Row) × (ss ≡ rs ++ (r ∷ more)) × (rest ≡ row_words r (rows_words more []))
more_rows [] [] rest some e = absurd (omega (arith, some, ap length e))
more_rows [] (s ∷ ss) rest some e = (s, ss, refl, e)
more_rows (r ∷ rs) [] rest some e = absurd (omega (arith, ap length e))
more_rows (r ∷ rs) (s ∷ ss) rest some e =
    let same = row_words-same r s (rows_words rs rest) (rows_words ss []) e in
    let found = more_rows rs ss rest some same.1 in
    (found.0, found.1, ap (λ t. t ∷ ss) (sym same.0) ∙ ap (λ ts. r ∷ ts) found.2, found.3)
