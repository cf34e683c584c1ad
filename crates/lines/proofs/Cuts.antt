-- Cutting and joining are inverse to each other. Assumes nothing.
use Rattle.std.proofs.Common.{◌≡◌, ℕ, zero, suc, ◌+◌, ◌-◌, ◌<◌, ◌≤◌, eqb, leb, List, [], ◌∷◌, ◌++◌, length, get_or, take, drop, sym, refl, ap, ◌∙◌, ⊎_elim, append-nil, le_of_suc-le-suc, not-suc-le-zero, arith}
use Rattle.std.proofs.lemmas.Bool.{eq-eqb, ne_eqb, eqb-false, le-leb, lt-leb, cases_eq, cases_lt, cond-true, cond-false, cond_both}
use Rattle.std.proofs.lemmas.List.{drop_more, take-append-drop, drop-drop, length-take-le, length-drop, get_or-take, get_or-drop, drop_all}
use Rattle.lines.specs.Fields.{Whole, AllWhole, CutAt, on_first, split, parted, join, PartEnd, placed, fields_from}

whole_tail : (s b : ℕ) (p : List ℕ) → Whole s (b ∷ p) → Whole s p
whole_tail s b p w k h = w (suc k) (omega arith)

pub split_last : (s : ℕ) (p : List ℕ) → Whole s p → split s p ≡ p ∷ []
split_last s [] w = refl
split_last s (b ∷ p) w = cond-false (eqb b s) _ _ (ne_eqb b s (w 0 (omega arith))) ∙ ap (on_first b) (split_last s p (whole_tail s b p w))

pub split_more : (s : ℕ) (p q : List ℕ) → Whole s p → split s (p ++ s ∷ q) ≡ p ∷ split s q
split_more s [] q w = cond-true (eqb s s) _ _ (eq-eqb s s refl)
split_more s (b ∷ p) q w = cond-false (eqb b s) _ _ (ne_eqb b s (w 0 (omega arith))) ∙ ap (on_first b) (split_more s p q (whole_tail s b p w))

pub split-join : (s : ℕ) (p : List ℕ) (ps : List (List ℕ)) → AllWhole s (p ∷ ps) → split s (join s (p ∷ ps)) ≡ p ∷ ps
split-join s p [] w = rw append-nil (split_last s p w.0)
split-join s p (q ∷ ps) w = split_more s p (q ++ parted s ps) w.0 ∙ ap (λ l. p ∷ l) (split-join s q ps w.1)

join_first : (s b : ℕ) (ps : List (List ℕ)) → join s (on_first b ps) ≡ b ∷ join s ps
join_first s b [] = refl
join_first s b (p ∷ ps) = refl

join_next : (s : ℕ) (ps : List (List ℕ)) → 0 < length ps → join s ([] ∷ ps) ≡ s ∷ join s ps
join_next s [] h = absurd (omega arith)
join_next s (p ∷ ps) h = refl

first_some : (b : ℕ) (ps : List (List ℕ)) → 0 < length (on_first b ps)
first_some b [] = omega arith
first_some b (p ∷ ps) = omega arith

first_length : (b : ℕ) (ps : List (List ℕ)) → 0 < length ps → length (on_first b ps) ≡ length ps
first_length b [] h = absurd (omega arith)
first_length b (p ∷ ps) h = refl

pub split_some : (s : ℕ) (bs : List ℕ) → 0 < length (split s bs)
split_some s [] = omega arith
split_some s (b ∷ bs) = cond_both (eqb b s) _ _ (λ ps. 0 < length ps) (λ e. omega arith) (λ e. first_some b (split s bs))

pub join-split : (s : ℕ) (bs : List ℕ) → join s (split s bs) ≡ bs
join-split s [] = refl
join-split s (b ∷ bs) =
    ⊎_elim
    (λ e. ap (join s) (cond-true (eqb b s) _ _ (eq-eqb b s e)) ∙ join_next s (split s bs) (split_some s bs) ∙ ap (λ c. c ∷ join s (split s bs)) (sym e) ∙ ap (λ l. b ∷ l) (join-split s bs))
    (λ e. ap (join s) (cond-false (eqb b s) _ _ (ne_eqb b s e)) ∙ join_first s b (split s bs) ∙ ap (λ l. b ∷ l) (join-split s bs))
    (cases_eq b s)

more_whole : (s b : ℕ) (p : List ℕ) → (b ≡ s → ⊥) → Whole s p → Whole s (b ∷ p)
more_whole s b p ne w zero h e = ne e
more_whole s b p ne w (suc k) h e = w k (le_of_suc-le-suc h) e

first_whole : (s b : ℕ) (ps : List (List ℕ)) → (b ≡ s → ⊥) → AllWhole s ps → AllWhole s (on_first b ps)
first_whole s b [] ne w = (more_whole s b [] ne (λ k h. absurd (not-suc-le-zero h)), tt)
first_whole s b (p ∷ ps) ne w = (more_whole s b p ne w.0, w.1)

split_whole : (s : ℕ) (bs : List ℕ) → AllWhole s (split s bs)
split_whole s [] = (λ k h. absurd (not-suc-le-zero h), tt)
split_whole s (b ∷ bs) =
    cond_both (eqb b s) _ _ (AllWhole s) (λ e. (λ k h. absurd (not-suc-le-zero h), split_whole s bs)) (λ e. first_whole s b (split s bs) (eqb-false b s e) (split_whole s bs))

pub cut_at : (s : ℕ) (bs : List ℕ) → CutAt s bs (split s bs)
cut_at s bs = record { joined = join-split s bs; whole = split_whole s bs }

pub length-placed : (at : ℕ) (ps : List (List ℕ)) → length (placed at ps) ≡ length ps
length-placed at [] = refl
length-placed at (p ∷ ps) = ap suc (length-placed (suc (at + length p)) ps)

-- the part that begins at `at` and ends at `end`
module _ (bytes : List ℕ) (at s end : ℕ) (part : PartEnd bytes at s end) (begins : at ≤ length bytes) where
  pub part_length : length (take (end - at) (drop at bytes)) ≡ end - at
  part_length = length-take-le (end - at) (drop at bytes) (omega (arith, length-drop at bytes, part.within begins))

  pub part_whole : Whole s (take (end - at) (drop at bytes))
  part_whole k h e =
      let long = part_length in
      let i : k < end - at = omega arith in
      part.inside (at + k) (omega arith) (omega arith) (sym (get_or-take (end - at) (drop at bytes) k 0 i ∙ get_or-drop at bytes k 0) ∙ e)

  pub part_rest : take (end - at) (drop at bytes) ++ drop end bytes ≡ drop at bytes
  part_rest =
      let same : at + (end - at) ≡ end = omega (arith, part.after) in
      ap (λ l. take (end - at) (drop at bytes) ++ l) (sym (drop-drop (end - at) at bytes ∙ ap (λ n. drop n bytes) same)) ∙ take-append-drop (end - at) (drop at bytes)

  pub separator_next : end < length bytes → drop end bytes ≡ s ∷ drop (end + 1) bytes
  separator_next more = drop_more bytes end 0 more ∙ ap (λ b. b ∷ drop (end + 1) bytes) (part.stops more)

-- a field, and those after it
module _ (line : List ℕ) (at end : ℕ) (part : PartEnd line at 44 end) (begins : at ≤ length line) where
  pub next_field : fields_from line at ≡ record { at = at; text = take (end - at) (drop at line) } ∷ fields_from line (end + 1)
  next_field =
      let p = take (end - at) (drop at line) in
      let whole = part_whole line at 44 end part begins in
      let rest = part_rest line at 44 end part begins in
      let past : suc (at + length p) ≡ end + 1 = omega (arith, part.after, part_length line at 44 end part begins) in
      let here = cond-true (leb at (length line)) (placed at (split 44 (drop at line))) [] (le-leb at (length line) begins) in
      ⊎_elim
      (λ more.
      let cut = ap (split 44) (sym rest ∙ ap (λ l. p ++ l) (separator_next line at 44 end part begins more)) ∙ split_more 44 p (drop (end + 1) line) whole in
      here ∙ ap (placed at) cut ∙ ap (λ n. record { at = at; text = p } ∷ placed n (split 44 (drop (end + 1) line))) past ∙ ap (λ l. record { at = at; text = p } ∷ l) (sym (cond-true (leb (end + 1) (length line)) _ [] (le-leb (end + 1) (length line) (omega arith)))))
      (λ last.
      let cut = ap (split 44) (sym rest ∙ ap (λ l. p ++ l) (drop_all end line last) ∙ append-nil p) ∙ split_last 44 p whole in
      here ∙ ap (placed at) cut ∙ ap (λ l. record { at = at; text = p } ∷ l) (sym (cond-false (leb (end + 1) (length line)) _ [] (lt-leb (end + 1) (length line) (omega arith)))))
      (cases_lt end (length line))

-- counting the parts: one place of the bytes, and the next
module _ (s : ℕ) (bs : List ℕ) (i : ℕ) (h : i < length bs) where
  pub count_separator : get_or bs i 0 ≡ s → length (split s (drop i bs)) ≡ length (split s (drop (i + 1) bs)) + 1
  count_separator e = ap (λ l. length (split s l)) (drop_more bs i 0 h) ∙ ap length (cond-true (eqb (get_or bs i 0) s) _ _ (eq-eqb _ s e)) ∙ omega arith

  pub count_other : (get_or bs i 0 ≡ s → ⊥) → length (split s (drop i bs)) ≡ length (split s (drop (i + 1) bs))
  count_other e = ap (λ l. length (split s l)) (drop_more bs i 0 h) ∙ ap length (cond-false (eqb (get_or bs i 0) s) _ _ (ne_eqb _ s e)) ∙ first_length _ _ (split_some s (drop (i + 1) bs))
