-- What the turns of the reader keep. Assumes nothing.
use Rattle.std.proofs.Common.{◌≡◌, ℕ, ◌+◌, ◌<◌, List, [], ◌∷◌, ◌++◌, length, take, drop, Ok, Err, Result, sym, refl, ap, ◌∙◌, arith}
use Rattle.std.proofs.lemmas.List.{length-drop, length_push, length-take, take_all, take-append-le}
use Rattle.frame.specs.declared.terms.Term.{Term}
use Rattle.lines.specs.Fields.{Field}
use Rattle.lines.specs.Frames.{flat}
use Rattle.lines.specs.Reading.{map_ok, and_then, numbers, first_number}

-- the first number, and then the others
pub numbers_more : (fs : List Field) (n : ℕ) → 0 < length fs → first_number fs ≡ Ok n → numbers fs ≡ map_ok (λ ns. n ∷ ns) (numbers (drop 1 fs))
numbers_more [] n h e = absurd (omega arith)
numbers_more (f ∷ fs) n h e = ap (λ r. and_then r (λ n. map_ok (λ ns. n ∷ ns) (numbers fs))) e

map_twice : {X Y Z E : Type 0} (f : Y → Z) (g : X → Y) (r : Result X E) → map_ok f (map_ok g r) ≡ map_ok (λ x. f (g x)) r
map_twice f g (Ok x) = refl
map_twice f g (Err e) = refl

map_same : {X Y E : Type 0} (f g : X → Y) (r : Result X E) → ((x : X) → f x ≡ g x) → map_ok f r ≡ map_ok g r
map_same f g (Ok x) h = ap Ok (h x)
map_same f g (Err e) h = refl

flat_push : (ts : List Term) (t : Term) (ns : List ℕ) → flat ts ++ t.minute ∷ t.weight ∷ ns ≡ flat (ts ++ t ∷ []) ++ ns
flat_push [] t ns = refl
flat_push (u ∷ ts) t ns = ap (λ l. u.minute ∷ u.weight ∷ l) (flat_push ts t ns)

-- i terms of `count` are read from fs, the first sixteen are kept, and `rest` is still to come
pub record Sofar (fs rest : List Field) (count i : ℕ) (kept : List Term) : Type 0 where
  pub left : length rest + (i + i) ≡ count + count
  pub all : List Term
  pub read : numbers fs ≡ map_ok (λ ns. flat all ++ ns) (numbers rest)
  pub long : length all ≡ i
  pub front : kept ≡ take 16 all

module _ (fs rest : List Field) (count i : ℕ) (kept : List Term) (s : Sofar fs rest count i kept) (h : i < count) where
  some : 0 < length rest
  some = omega (arith, s.left)

  more : 0 < length (drop 1 rest)
  more = omega (arith, s.left, length-drop 1 rest)

  module _ (m w : ℕ) (minute : first_number rest ≡ Ok m) (weight : first_number (drop 1 rest) ≡ Ok w) where
    read_more : numbers fs ≡ map_ok (λ ns. flat (s.all ++ record { minute = m; weight = w } ∷ []) ++ ns) (numbers (drop 1 (drop 1 rest)))
    read_more =
        s.read
        ∙ ap (map_ok (λ ns. flat s.all ++ ns)) (numbers_more rest m some minute ∙ ap (map_ok (λ ns. m ∷ ns)) (numbers_more (drop 1 rest) w more weight))
        ∙ ap (map_ok (λ ns. flat s.all ++ ns)) (map_twice (λ ns. m ∷ ns) (λ ns. w ∷ ns) (numbers (drop 1 (drop 1 rest))))
        ∙ map_twice (λ ns. flat s.all ++ ns) (λ ns. m ∷ w ∷ ns) (numbers (drop 1 (drop 1 rest)))
        ∙ map_same _ _ (numbers (drop 1 (drop 1 rest))) (flat_push s.all (record { minute = m; weight = w }))

    left_more : length (drop 1 (drop 1 rest)) + (i + 1 + (i + 1)) ≡ count + count
    left_more = omega (arith, s.left, length-drop 1 rest, length-drop 1 (drop 1 rest))

    long_more : length (s.all ++ record { minute = m; weight = w } ∷ []) ≡ i + 1
    long_more = length_push s.all (record { minute = m; weight = w }) ∙ ap (λ n. n + 1) s.long

    pub sofar_kept : length kept < 16 → Sofar fs (drop 1 (drop 1 rest)) count (i + 1) (kept ++ record { minute = m; weight = w } ∷ [])
    sofar_kept room =
        let few : length s.all < 16 = omega (arith, ap length s.front, length-take 16 s.all) in
        record {
          left = left_more;
          all = s.all ++ record { minute = m; weight = w } ∷ [];
          read = read_more;
          long = long_more;
          front =
              ap (λ l. l ++ record { minute = m; weight = w } ∷ []) (s.front ∙ take_all 16 s.all (omega arith))
              ∙ sym (take_all 16 (s.all ++ record { minute = m; weight = w } ∷ []) (omega (arith, long_more, s.long)));
        }

    pub sofar_past : length kept ≡ 16 → Sofar fs (drop 1 (drop 1 rest)) count (i + 1) kept
    sofar_past full =
        record {
          left = left_more;
          all = s.all ++ record { minute = m; weight = w } ∷ [];
          read = read_more;
          long = long_more;
          front = s.front ∙ sym (take-append-le 16 s.all (record { minute = m; weight = w } ∷ []) (omega (arith, ap length s.front, length-take 16 s.all)));
        }
