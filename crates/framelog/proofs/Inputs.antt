-- How the lines of an input grow with it. Assumes nothing.
use Rattle.std.proofs.Common.{◌≡◌, ℕ, ◌<◌, eqb, List, [], ◌∷◌, ◌++◌, length, take, vec_items, Vec, sym, refl, ap, ◌∙◌, subst, ⊎_elim, append_assoc, append-nil, arith}
use Rattle.std.proofs.lemmas.List.{take_all}
use Rattle.std.proofs.lemmas.Bool.{eq-eqb, ne_eqb, cond-true, cond-false, cases_eq}
use Rattle.std.specs.declared.alloc.Global.{Global}
use Rattle.lines.specs.Writing.{Full}
use Rattle.lines.specs.Fields.{Whole, on_first, split}
use Rattle.lines.proofs.Cuts.{split_last, split_more, split_some}
use Rattle.framelog.specs.declared.logs.Log.{Log}
use Rattle.framelog.specs.Machines.{Machine, KnowsFronts}
use Rattle.framelog.specs.Lines.{unfinished, answered, state_after, answers, state_at_end, Holds, Grows, Keeps, Ended}
use Rattle.framelog.proofs.Kept.{front_front}

-- the last part of one list and the first of another are one part
abbrev glue : List (List ℕ) → List (List ℕ) → List (List ℕ)
glue [] ms = ms
glue (l ∷ []) [] = l ∷ []
glue (l ∷ []) (m ∷ ms) = (l ++ m) ∷ ms
glue (l ∷ k ∷ ls) ms = l ∷ glue (k ∷ ls) ms

glue_empty : (ms : List (List ℕ)) → 0 < length ms → ms ≡ glue ([] ∷ []) ms
glue_empty [] h = absurd (omega arith)
glue_empty (m ∷ ms) h = refl

glue_next : (ls ms : List (List ℕ)) → 0 < length ls → [] ∷ glue ls ms ≡ glue ([] ∷ ls) ms
glue_next [] ms h = absurd (omega arith)
glue_next (l ∷ ls) ms h = refl

glue_first : (b : ℕ) (ls ms : List (List ℕ)) → 0 < length ls → 0 < length ms → on_first b (glue ls ms) ≡ glue (on_first b ls) ms
glue_first b [] ms h g = absurd (omega arith)
glue_first b (l ∷ []) [] h g = absurd (omega arith)
glue_first b (l ∷ []) (m ∷ ms) h g = refl
glue_first b (l ∷ k ∷ ls) ms h g = refl

pub split-append : (s : ℕ) (xs ys : List ℕ) → split s (xs ++ ys) ≡ glue (split s xs) (split s ys)
split-append s [] ys = glue_empty (split s ys) (split_some s ys)
split-append s (b ∷ xs) ys =
    ⊎_elim
    (λ e.
    cond-true (eqb b s) _ _ (eq-eqb b s e)
    ∙ ap (λ l. [] ∷ l) (split-append s xs ys)
    ∙ glue_next (split s xs) (split s ys) (split_some s xs)
    ∙ ap (λ l. glue l (split s ys)) (sym (cond-true (eqb b s) _ _ (eq-eqb b s e))))
    (λ e.
    cond-false (eqb b s) _ _ (ne_eqb b s e)
    ∙ ap (on_first b) (split-append s xs ys)
    ∙ glue_first b (split s xs) (split s ys) (split_some s xs) (split_some s ys)
    ∙ ap (λ l. glue l (split s ys)) (sym (cond-false (eqb b s) _ _ (ne_eqb b s e))))
    (cases_eq b s)

part_unfinished : (ls : List (List ℕ)) (m : List ℕ) → 0 < length ls → unfinished (glue ls (m ∷ [])) ≡ unfinished ls ++ m
part_unfinished [] m h = absurd (omega arith)
part_unfinished (l ∷ []) m h = refl
part_unfinished (l ∷ k ∷ []) m h = refl
part_unfinished (l ∷ k ∷ j ∷ ls) m h = part_unfinished (k ∷ j ∷ ls) m (omega arith)

line_unfinished : (ls : List (List ℕ)) (m : List ℕ) → 0 < length ls → unfinished (glue ls (m ∷ [] ∷ [])) ≡ []
line_unfinished [] m h = absurd (omega arith)
line_unfinished (l ∷ []) m h = refl
line_unfinished (l ∷ k ∷ []) m h = refl
line_unfinished (l ∷ k ∷ j ∷ ls) m h = line_unfinished (k ∷ j ∷ ls) m (omega arith)

-- growing in steps
grows_same : (o : Vec ℕ Global) (a b : List ℕ) → b ≡ a → Grows o o a b
grows_same o a b e = record { text = []; output = sym (append-nil (vec_items o)); answer = e ∙ sym (append-nil a) }

grows_more : (o p q : Vec ℕ Global) (a b c : List ℕ) → Grows o p a b → Grows p q b c → Grows o q a c
grows_more o p q a b c g h =
    record {
      text = g.text ++ h.text;
      output = h.output ∙ ap (λ l. l ++ h.text) g.output ∙ append_assoc (vec_items o) g.text h.text;
      answer = h.answer ∙ ap (λ l. l ++ h.text) g.answer ∙ append_assoc a g.text h.text;
    }

module _ {A : Type 0} (M : Machine A) where
  -- a part without an end
  part_answered : (a : A) (ls : List (List ℕ)) (m : List ℕ) → 0 < length ls → answered M a (glue ls (m ∷ [])) ≡ answered M a ls
  part_answered a [] m h = absurd (omega arith)
  part_answered a (l ∷ []) m h = refl
  part_answered a (l ∷ k ∷ []) m h = refl
  part_answered a (l ∷ k ∷ j ∷ ls) m h = ap (λ t. M.output a l ++ t) (part_answered (M.next a l) (k ∷ j ∷ ls) m (omega arith))

  part_after : (a : A) (ls : List (List ℕ)) (m : List ℕ) → 0 < length ls → state_after M a (glue ls (m ∷ [])) ≡ state_after M a ls
  part_after a [] m h = absurd (omega arith)
  part_after a (l ∷ []) m h = refl
  part_after a (l ∷ k ∷ []) m h = refl
  part_after a (l ∷ k ∷ j ∷ ls) m h = part_after (M.next a l) (k ∷ j ∷ ls) m (omega arith)

  -- a part with the end of its line
  line_answered : (a : A) (ls : List (List ℕ)) (m : List ℕ) → 0 < length ls → answered M a (glue ls (m ∷ [] ∷ [])) ≡ answered M a ls ++ M.output (state_after M a ls) (unfinished ls ++ m)
  line_answered a [] m h = absurd (omega arith)
  line_answered a (l ∷ []) m h = append-nil (M.output a (l ++ m))
  line_answered a (l ∷ k ∷ []) m h =
      ap (λ t. M.output a l ++ t) (append-nil (M.output (M.next a l) (k ++ m))) ∙ ap (λ t. t ++ M.output (M.next a l) (k ++ m)) (sym (append-nil (M.output a l)))
  line_answered a (l ∷ k ∷ j ∷ ls) m h =
      ap (λ t. M.output a l ++ t) (line_answered (M.next a l) (k ∷ j ∷ ls) m (omega arith)) ∙ sym (append_assoc (M.output a l) (answered M (M.next a l) (k ∷ j ∷ ls)) _)

  line_after : (a : A) (ls : List (List ℕ)) (m : List ℕ) → 0 < length ls → state_after M a (glue ls (m ∷ [] ∷ [])) ≡ M.next (state_after M a ls) (unfinished ls ++ m)
  line_after a [] m h = absurd (omega arith)
  line_after a (l ∷ []) m h = refl
  line_after a (l ∷ k ∷ []) m h = refl
  line_after a (l ∷ k ∷ j ∷ ls) m h = line_after (M.next a l) (k ∷ j ∷ ls) m (omega arith)

  -- taking bytes one after the other
  pub keeps_more : (a b c : Log A) (o p q : Vec ℕ Global) (xs ys : List ℕ) → Keeps M a b o p xs → Keeps M b c p q ys → Keeps M a c o q (xs ++ ys)
  keeps_more a b c o p q xs ys k l = record {
    holds = λ start input h. subst (Holds M start c) (append_assoc input xs ys) (l.holds start (input ++ xs) (k.holds start input h));
    grows = λ start input h.
        subst (λ all. Grows o q (answered M start (split 10 input)) (answered M start (split 10 all))) (append_assoc input xs ys)
        (grows_more o p q _ _ _ (k.grows start input h) (l.grows start (input ++ xs) (k.holds start input h)));
  }

  pub keeps_none : (a : Log A) (o : Vec ℕ Global) → Keeps M a a o o []
  keeps_none a o = record {
    holds = λ start input h. subst (Holds M start a) (sym (append-nil input)) h;
    grows = λ start input h. grows_same o _ _ (ap (λ i. answered M start (split 10 i)) (append-nil input));
  }

  -- a part of a line, with no end in it
  module _ (a b : Log A) (o : Vec ℕ Global) (part : List ℕ) (whole : Whole 10 part) (is : b.line ≡ take 257 (a.line ++ part)) (same : b.answerer ≡ a.answerer) where
    part_cut : (input : List ℕ) → split 10 (input ++ part) ≡ glue (split 10 input) (part ∷ [])
    part_cut input = split-append 10 input part ∙ ap (glue (split 10 input)) (split_last 10 part whole)

    part_holds : (start : A) (input : List ℕ) → Holds M start a input → Holds M start b (input ++ part)
    part_holds start input h =
        let lines = split 10 input in
        record {
          line = is ∙ ap (λ l. take 257 (l ++ part)) h.line ∙ front_front 257 (unfinished lines) part ∙ ap (take 257) (sym (part_unfinished lines part (split_some 10 input)) ∙ ap unfinished (sym (part_cut input)));
          state = same ∙ h.state ∙ sym (part_after start lines part (split_some 10 input)) ∙ ap (state_after M start) (sym (part_cut input));
        }

    pub keeps_part : Keeps M a b o o part
    keeps_part =
        record {
          holds = part_holds;
          grows = λ start input h. grows_same o _ _ (ap (answered M start) (part_cut input) ∙ part_answered start (split 10 input) part (split_some 10 input));
        }

  module _ (F : KnowsFronts M) where
    -- the last part of a line, and its end
    module _ (a b : Log A) (o p : Vec ℕ Global) (part text : List ℕ) (whole : Whole 10 part) (empty : b.line ≡ []) (is : text ≡ take 257 (a.line ++ part)) (put : (vec_items p ≡ vec_items o ++ M.output a.answerer text) × (b.answerer ≡ M.next a.answerer text)) where
      line_cut : (input : List ℕ) → split 10 (input ++ (part ++ 10 ∷ [])) ≡ glue (split 10 input) (part ∷ [] ∷ [])
      line_cut input = split-append 10 input (part ++ 10 ∷ []) ∙ ap (glue (split 10 input)) (split_more 10 part [] whole)

      module _ (start : A) (input : List ℕ) (h : Holds M start a input) where
        front : text ≡ take 257 (unfinished (split 10 input) ++ part)
        front = is ∙ ap (λ l. take 257 (l ++ part)) h.line ∙ front_front 257 (unfinished (split 10 input)) part

        line_grows : Grows o p (answered M start (split 10 input)) (answered M start (split 10 (input ++ (part ++ 10 ∷ []))))
        line_grows =
            let lines = split 10 input in
            let line : M.output a.answerer text ≡ M.output (state_after M start lines) (unfinished lines ++ part) = (λ i. M.output (h.state i) (front i)) ∙ F.output (state_after M start lines) (unfinished lines ++ part) in
            record {
              text = M.output a.answerer text;
              output = put.0;
              answer = ap (answered M start) (line_cut input) ∙ line_answered start lines part (split_some 10 input) ∙ ap (λ l. answered M start lines ++ l) (sym line);
            }

        line_holds : Holds M start b (input ++ (part ++ 10 ∷ []))
        line_holds =
            let lines = split 10 input in
            record {
              line = empty ∙ ap (take 257) (sym (line_unfinished lines part (split_some 10 input)) ∙ ap unfinished (sym (line_cut input)));
              state =
                  put.1
                  ∙ (λ i. M.next (h.state i) (front i))
                  ∙ F.next (state_after M start lines) (unfinished lines ++ part)
                  ∙ sym (line_after start lines part (split_some 10 input))
                  ∙ ap (state_after M start) (sym (line_cut input));
            }

      pub keeps_line : Keeps M a b o p (part ++ 10 ∷ [])
      keeps_line = record { holds = line_holds; grows = line_grows }

  -- a whole log, from its start
  module _ (start : A) (a b : Log A) (o p : Vec ℕ Global) (begun : Holds M start a []) where
    pub log_answered : (bytes : List ℕ) → Keeps M a b o p bytes → vec_items p ≡ vec_items o ++ answered M start (split 10 bytes)
    log_answered bytes k = let g = k.grows start [] begun in g.output ∙ ap (λ l. vec_items o ++ l) (sym g.answer)

    pub all_answered : (c : Log A) (q : Vec ℕ Global) (bytes : List ℕ) → Keeps M a b o p bytes → Ended M b c p q → (vec_items q ≡ vec_items o ++ answers M start bytes) × (c.answerer ≡ state_at_end M start bytes)
    all_answered c q bytes k e =
        let held = k.holds start [] begun in
        let g = grows_more o p q _ _ _ (k.grows start [] begun) (e.grows start bytes held) in
        (g.output ∙ ap (λ l. vec_items o ++ l) (sym g.answer), e.state start bytes held)

    pub last_unanswered : (q bytes : List ℕ) → Keeps M a b o p bytes → q ≡ vec_items p → Full p 257 → (n : ℕ) × (full : Vec ℕ Global) × (vec_items full ≡ vec_items o ++ answered M start (split 10 (take n bytes))) × (q ≡ vec_items full) × Full full 257
    last_unanswered q bytes k same full =
        (length bytes, p, log_answered bytes k ∙ ap (λ l. vec_items o ++ answered M start (split 10 l)) (sym (take_all (length bytes) bytes (omega arith))), same, full)
