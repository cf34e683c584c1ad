-- Hours read off words, row by row. Assumes nothing.
use Rattle.std.proofs.Common.{◌≡◌, ℕ, ◌+◌, ◌<◌, List, [], ◌∷◌, length, slice_index_or, sym, ap, subst, ◌∙◌, suc, arith}
use Rattle.std.specs.Result.{is_ok}
use Rattle.std.proofs.lemmas.List.{length-append}
use Rattle.std.proofs.lemmas.List.Elements.{All-nil, All-cons, All-append}
use Rattle.std.proofs.Math.Seq.{get_or-append_seam}
use Rattle.frame.specs.Frames.{minute_at}
use Rattle.rows.specs.declared.sizes.TheConstants.{MOST_ROWS}
use Rattle.rows.specs.Systems.{Row, System, empty_row, row_at, WellFormed, WellFormedRow}
use Rattle.rows.proofs.Beyond.{is_taken}
use Rattle.solverspeed.specs.Hours.{rows_words, FromFrame, IsHour, IsNoHour}
use Rattle.solverspeed.specs.Steps.{BeginsWith, NoRowTaken, ReadSoFar}
use Rattle.solverspeed.proofs.Words.{rows_words-append, more_rows}

-- one row more is read
pub one_row : (words ws rest : List ℕ) (S T : System) (r : Row) → BeginsWith r ws rest S T → ReadSoFar words S ws → ReadSoFar words T rest
one_row words ws rest S T r begins so_far =
    subst (λ U. ReadSoFar words U rest) (sym begins.appended) (record {
      said = so_far.said ∙ ap (λ us. S.width ∷ rows_words S.rows us) begins.said ∙ ap (λ us. S.width ∷ us) (sym (rows_words-append S.rows (r ∷ []) rest));
      frames = All-append FromFrame S.rows (r ∷ []) so_far.frames (All-cons FromFrame r [] begins.frame (All-nil FromFrame));
    })

-- no row is read, though there are words
pub no_row : (words rest : List ℕ) (S : System) → 0 < length rest → ReadSoFar words S rest → NoRowTaken rest S → IsNoHour words
no_row words rest S some so_far none T hour =
    let start : S.width ∷ rows_words S.rows rest ≡ T.width ∷ rows_words T.rows [] = sym so_far.said ∙ hour.said in
    let wide : S.width ≡ T.width = cc in
    let rows : rows_words S.rows rest ≡ rows_words T.rows [] = cc in
    let found = more_rows S.rows T.rows rest some rows in
    let r = found.0 in
    let more = found.1 in
    let split = found.2 in
    let counted : length T.rows ≡ length S.rows + suc (length more) = ap length split ∙ length-append S.rows (r ∷ more) in
    let inside : length S.rows < length T.rows = omega (arith, counted) in
    let there : row_at T (length S.rows) ≡ r = ap (λ rs. slice_index_or rs (length S.rows) empty_row) split ∙ get_or-append_seam S.rows r more empty_row in
    let frame = subst FromFrame there (hour.frames (length S.rows) empty_row inside) in
    let below = subst (WellFormedRow T.width) there (hour.formed.each (length S.rows) inside) in
    none r (rows_words more []) found.3 frame
    (ap is_ok (is_taken S MOST_ROWS r (λ k h. subst (λ m. minute_at r.terms k < m) (sym wide) (below.below k h)) (omega (arith, inside, hour.formed.few_rows))))

-- all words are read
pub all_rows : (words rest : List ℕ) (S : System) → length rest ≡ 0 → ReadSoFar words S rest → WellFormed S → IsHour words S
all_rows words [] S empty so_far formed = record { said = so_far.said; formed = formed; frames = so_far.frames }
all_rows words (w ∷ rest) S empty so_far formed = absurd (omega (arith, empty))
