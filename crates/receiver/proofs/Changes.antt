-- A reading more, a row more, a row struck: what is held is what the use says. Assumes nothing.
use Rattle.std.proofs.Common.{◌≡◌, ◌≢◌, ℕ, zero, suc, ◌<◌, ◌⊎◌, ◌==◌, ◌++◌, ◌-◌, inl, inr, Bool, true, false, cond, not, List, [], ◌∷◌, length, Some, None, Option, slice_set, slice_index_or, sym, refl, ap, subst, ◌∙◌, arith, length-set, le_of_suc-le-suc}
use Rattle.std.specs.List.{Contains, filter}
use Rattle.std.proofs.lemmas.Bool.{cases_eq, eq-eqb, ne_eqb, true≢false}
use Rattle.std.proofs.lemmas.List.{get_or-set_same, get_or-set_other, get_or_append_left, get_or-append_right, length-append}
use Rattle.std.proofs.lemmas.List.Elements.{All-contains, All-filter, All-contains_itself, filter_passes}
use Rattle.std.proofs.lemmas.Option.{none-some}
use Rattle.rows.specs.Systems.{Row, empty_row}
use Rattle.notes.specs.Notes.{noted_code}
use Rattle.receiver.specs.Uses.{Reading, Taken}
use Rattle.receiver.specs.Laws.{NotesAre, RowsAre}

module _ {X : Type 0} (x : X) (xs : List X) where
  contains_first : Contains (x ∷ xs) x
  contains_first = (0, omega arith, refl)

  contains_later : (y : X) → Contains xs y → Contains (x ∷ xs) y
  contains_later y h = (suc h.0, let l = h.1 in omega arith, h.2)

  contains_at : (y : X) (k : ℕ) → k < length (x ∷ xs) → slice_index_or (x ∷ xs) k y ≡ y → (x ≡ y) ⊎ Contains xs y
  contains_at y zero l e = inl e
  contains_at y (suc k) l e = inr (k, le_of_suc-le-suc l, e)

  contains_cases : (y : X) → Contains (x ∷ xs) y → (x ≡ y) ⊎ Contains xs y
  contains_cases y h = contains_at y h.0 h.1 h.2

-- what a filter keeps
module _ {X : Type 0} (test : X → Bool) where
  kept_first : (x y : X) (xs : List X) (b : Bool) → test x ≡ b → test y ≡ true → x ≡ y → Contains (cond b (x ∷ xs) xs) y
  kept_first x y xs true e passes same = subst (Contains (x ∷ xs)) same (contains_first x xs)
  kept_first x y xs false e passes same = absurd (true≢false (sym passes ∙ ap test (sym same) ∙ e))

  kept_later : (x y : X) (xs : List X) (b : Bool) → Contains xs y → Contains (cond b (x ∷ xs) xs) y
  kept_later x y xs true h = contains_later x xs y h
  kept_later x y xs false h = h

  contains_kept : (xs : List X) (y : X) → test y ≡ true → Contains xs y → Contains (filter test xs) y
  contains_kept [] y passes h = h
  contains_kept (x ∷ xs) y passes h =
      elim (contains_cases x xs y h) [
        | inl same ↦ kept_first x y (filter test xs) (test x) refl passes same
        | inr later ↦ kept_later x y (filter test xs) (test x) (contains_kept xs y passes later)
      ]

  contained_before : (xs : List X) (y : X) → Contains (filter test xs) y → Contains xs y
  contained_before xs y h = All-contains (Contains xs) (filter test xs) y (All-filter test (Contains xs) xs (All-contains_itself xs)) h

  kept_passes : (xs : List X) (y : X) → Contains (filter test xs) y → test y ≡ true
  kept_passes xs y h = All-contains (λ y. test y ≡ true) (filter test xs) y (filter_passes test xs) h

abbrev reading : ℕ → ℕ → Reading
reading c code = record { minute = c; code = code }

-- a reading more
module _ (codes : List (Option ℕ)) (rs : List Reading) (c code : ℕ) (there : c < length codes) (free : noted_code codes c ≡ None) (are : NotesAre codes rs) where
  abbrev more : List (Option ℕ)
  more = slice_set codes c (Some code)

  noted_then : (d k : ℕ) → noted_code more d ≡ Some k → Contains (reading c code ∷ rs) (reading d k)
  noted_then d k e =
      elim (cases_eq d c) [
        | inl same ↦
            let own : noted_code more d ≡ Some code = ap (noted_code more) same ∙ get_or-set_same codes c (Some code) None there in
            let values : code ≡ k = let both : Some code ≡ Some k = sym own ∙ e in cc in
            let first : reading c code ≡ reading d k = ap (λ d. reading d code) (sym same) ∙ ap (reading d) values in
            subst (Contains (reading c code ∷ rs)) first (contains_first (reading c code) rs)
        | inr other ↦ contains_later (reading c code) rs (reading d k) ((are d k).0 (sym (get_or-set_other codes c d (Some code) None other) ∙ e))
      ]

  read_then : (d k : ℕ) → Contains (reading c code ∷ rs) (reading d k) → noted_code more d ≡ Some k
  read_then d k h =
      elim (contains_cases (reading c code) rs (reading d k) h) [
        | inl same ↦
            ap (noted_code more) (sym (ap (λ (r : Reading). r.minute) same))
            ∙ get_or-set_same codes c (Some code) None there
            ∙ ap (λ (r : Reading). Some r.code) same
        | inr later ↦
            let noted = (are d k).1 later in
            let other : d ≢ c = λ same. none-some k (sym free ∙ ap (noted_code codes) (sym same) ∙ noted) in
            get_or-set_other codes c d (Some code) None other ∙ noted
      ]

  pub reading_more : NotesAre more (reading c code ∷ rs)
  reading_more d k = (noted_then d k, read_then d k)

abbrev taken_as : ℕ → Row → Taken
taken_as n r = record { number = n; row = r }

-- a row more
module _ (rows : List Row) (fs : List Taken) (n : ℕ) (r : Row) (last : n ≡ length rows) (are : RowsAre rows fs) where
  abbrev longer : List Row
  longer = rows ++ (r ∷ [])

  own_row : slice_index_or longer n empty_row ≡ r
  own_row =
      let at_start : n - n ≡ 0 = omega arith in
      get_or-append_right rows (r ∷ []) n n empty_row (sym last) (omega arith) ∙ ap (λ k. slice_index_or (r ∷ []) k empty_row) at_start

  earlier_row : (i : ℕ) → i < length rows → slice_index_or longer i empty_row ≡ slice_index_or rows i empty_row
  earlier_row i h = get_or_append_left rows (r ∷ []) empty_row i h

  frames_then : (f : Taken) → Contains (taken_as n r ∷ fs) f → (f.number < length longer) × (slice_index_or longer f.number empty_row ≡ f.row)
  frames_then f h =
      let long = length-append rows (r ∷ []) in
      elim (contains_cases (taken_as n r) fs f h) [
        | inl same ↦
            let number : n ≡ f.number = ap (λ (f : Taken). f.number) same in
            (omega (arith, last), ap (λ i. slice_index_or longer i empty_row) (sym number) ∙ own_row ∙ ap (λ (f : Taken). f.row) same)
        | inr later ↦
            let before = are.frames f later in
            (let l = before.0 in omega arith, earlier_row f.number before.0 ∙ before.1)
      ]

  others_then : (i : ℕ) → i < length longer → (slice_index_or longer i empty_row ≡ empty_row) ⊎ Contains (taken_as n r ∷ fs) (taken_as i (slice_index_or longer i empty_row))
  others_then i h =
      let long = length-append rows (r ∷ []) in
      elim (cases_eq i n) [
        | inl same ↦
            let first : taken_as n r ≡ taken_as i (slice_index_or longer i empty_row) =
            ap (λ n. taken_as n r) (sym same) ∙ ap (taken_as i) (sym own_row ∙ ap (λ i. slice_index_or longer i empty_row) (sym same)) in
            inr (subst (Contains (taken_as n r ∷ fs)) first (contains_first (taken_as n r) fs))
        | inr other ↦
            let l : i < length rows = omega (arith, last) in
            let row = earlier_row i l in
            elim (are.others i l) [
              | inl empty ↦ inl (row ∙ empty)
              | inr taken ↦ inr (contains_later (taken_as n r) fs (taken_as i (slice_index_or longer i empty_row)) (subst (λ r. Contains fs (taken_as i r)) (sym row) taken))
            ]
      ]

  pub row_more : RowsAre longer (taken_as n r ∷ fs)
  row_more = record { frames = frames_then; others = others_then }

-- a row struck
module _ (rows : List Row) (fs : List Taken) (n : ℕ) (are : RowsAre rows fs) where
  abbrev emptied : List Row
  emptied = slice_set rows n empty_row

  abbrev left : Taken → Bool
  left f = not (f.number == n)

  is_other : (i : ℕ) → not (i == n) ≡ true → i ≢ n
  is_other i e same = true≢false (sym e ∙ ap not (eq-eqb i n same))

  is_left : (i : ℕ) → i ≢ n → not (i == n) ≡ true
  is_left i other = ap not (ne_eqb i n other)

  frames_left : (f : Taken) → Contains (filter left fs) f → (f.number < length emptied) × (slice_index_or emptied f.number empty_row ≡ f.row)
  frames_left f h =
      let before = are.frames f (contained_before left fs f h) in
      let other = is_other f.number (kept_passes left fs f h) in
      let long = length-set rows n empty_row in
      (let l = before.0 in omega arith, get_or-set_other rows n f.number empty_row empty_row other ∙ before.1)

  others_left : (i : ℕ) → i < length emptied → (slice_index_or emptied i empty_row ≡ empty_row) ⊎ Contains (filter left fs) (taken_as i (slice_index_or emptied i empty_row))
  others_left i h =
      let long = length-set rows n empty_row in
      let l : i < length rows = omega arith in
      elim (cases_eq i n) [
        | inl same ↦ inl (ap (λ i. slice_index_or emptied i empty_row) same ∙ get_or-set_same rows n empty_row empty_row (omega arith))
        | inr other ↦
            let row = get_or-set_other rows n i empty_row empty_row other in
            elim (are.others i l) [
              | inl empty ↦ inl (row ∙ empty)
              | inr taken ↦ inr (contains_kept left fs (taken_as i (slice_index_or emptied i empty_row)) (is_left i other) (subst (λ r. Contains fs (taken_as i r)) (sym row) taken))
            ]
      ]

  pub row_struck : RowsAre emptied (filter left fs)
  row_struck = record { frames = frames_left; others = others_left }
