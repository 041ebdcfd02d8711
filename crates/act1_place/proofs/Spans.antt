-- The least and the greatest of the places that a loop has seen.
use Rattle.std.proofs.Common.{ℕ, ◌≡◌, ◌+◌, ◌-◌, ◌<◌, ◌≤◌, min, max, List, [], ◌∷◌, ◌++◌, length, map, take, get_or, refl, sym, ap, ◌∙◌, arith}
use Rattle.std.proofs.lemmas.List.{length-map, length-append, take_more, take_all, map_push, length-take}
use Rattle.act1_base.specs.Lists.{least_number, greatest_number}
use Rattle.act1_base.proofs.Elements.{least_below}
use Rattle.act1_place.specs.declared.net.Place.{Place}
use Rattle.act1_place.specs.Perimeter.{half_perimeter}

least_push : (n m : ℕ) (ns : List ℕ) → least_number ((n ∷ ns) ++ m ∷ []) ≡ min (least_number (n ∷ ns)) m
least_push n m [] = refl
least_push n m (k ∷ ns) = let rest = least_push k m ns in omega (arith, rest)

greatest_push : (m : ℕ) (ns : List ℕ) → greatest_number (ns ++ m ∷ []) ≡ max (greatest_number ns) m
greatest_push m [] = omega arith
greatest_push m (n ∷ ns) = let rest = greatest_push m ns in omega (arith, rest)

least_more : (m : ℕ) (ns : List ℕ) → 1 ≤ length ns → least_number (ns ++ m ∷ []) ≡ min (least_number ns) m
least_more m [] h = absurd (omega arith)
least_more m (n ∷ ns) h = least_push n m ns

-- the ends of the first n places
pub record Spans (ps : List Place) (n left right low high : ℕ) : Type 0 where
  pub some : 1 ≤ n
  pub within : n ≤ length ps
  pub left_is : left ≡ least_number (map (λ (p : Place). p.x) (take n ps))
  pub right_is : right ≡ greatest_number (map (λ (p : Place). p.x) (take n ps))
  pub low_is : low ≡ least_number (map (λ (p : Place). p.y) (take n ps))
  pub high_is : high ≡ greatest_number (map (λ (p : Place). p.y) (take n ps))

pub spans_first : (ps : List Place) (p : Place) → 1 ≤ length ps → p ≡ get_or ps 0 p → Spans ps 1 p.x p.x p.y p.y
spans_first [] p h e = absurd (omega arith)
spans_first (q ∷ ps) p h e = record {
  some = omega arith;
  within = omega arith;
  left_is = ap (λ (p : Place). p.x) e;
  right_is = let m : q.x ≡ max q.x 0 = omega arith in ap (λ (p : Place). p.x) e ∙ m;
  low_is = ap (λ (p : Place). p.y) e;
  high_is = let m : q.y ≡ max q.y 0 = omega arith in ap (λ (p : Place). p.y) e ∙ m;
}

pub spans_more : (ps : List Place) (p : Place) (n left right low high a b c d : ℕ) → Spans ps n left right low high → n < length ps → p ≡ get_or ps n p
    → a ≡ min left p.x → b ≡ max right p.x → c ≡ min low p.y → d ≡ max high p.y → Spans ps (n + 1) a b c d
spans_more ps p n left right low high a b c d s h e a_is b_is c_is d_is =
    let more : take (n + 1) ps ≡ take n ps ++ p ∷ [] = take_more ps n p h ∙ ap (λ (q : Place). take n ps ++ q ∷ []) (sym e) in
    let xs : map (λ (p : Place). p.x) (take (n + 1) ps) ≡ map (λ (p : Place). p.x) (take n ps) ++ p.x ∷ [] = ap (map (λ (p : Place). p.x)) more ∙ map_push (λ (p : Place). p.x) (take n ps) p in
    let ys : map (λ (p : Place). p.y) (take (n + 1) ps) ≡ map (λ (p : Place). p.y) (take n ps) ++ p.y ∷ [] = ap (map (λ (p : Place). p.y)) more ∙ map_push (λ (p : Place). p.y) (take n ps) p in
    let some_x : 1 ≤ length (map (λ (p : Place). p.x) (take n ps)) = omega (arith, length-map (take n ps) (λ (p : Place). p.x), length-take n ps, s.some) in
    let some_y : 1 ≤ length (map (λ (p : Place). p.y) (take n ps)) = omega (arith, length-map (take n ps) (λ (p : Place). p.y), length-take n ps, s.some) in
    record {
      some = omega arith;
      within = omega arith;
      left_is = omega (arith, a_is, s.left_is, ap least_number xs, least_more p.x (map (λ (p : Place). p.x) (take n ps)) some_x);
      right_is = omega (arith, b_is, s.right_is, ap greatest_number xs, greatest_push p.x (map (λ (p : Place). p.x) (take n ps)));
      low_is = omega (arith, c_is, s.low_is, ap least_number ys, least_more p.y (map (λ (p : Place). p.y) (take n ps)) some_y);
      high_is = omega (arith, d_is, s.high_is, ap greatest_number ys, greatest_push p.y (map (λ (p : Place). p.y) (take n ps)));
    }

pub spans_wide : (ps : List Place) (n left right low high : ℕ) → Spans ps n left right low high → (left ≤ right) × (low ≤ high)
spans_wide ps n left right low high s =
    (omega (arith, s.left_is, s.right_is, least_below (map (λ (p : Place). p.x) (take n ps))), omega (arith, s.low_is, s.high_is, least_below (map (λ (p : Place). p.y) (take n ps))))

pub spans_all : (ps : List Place) (n left right low high : ℕ) → Spans ps n left right low high → length ps ≤ n → right - left + (high - low) ≡ half_perimeter ps
spans_all ps n left right low high s h =
    let whole = take_all n ps h in
    let xs = ap (map (λ (p : Place). p.x)) whole in
    let ys = ap (map (λ (p : Place). p.y)) whole in
    omega (arith, s.left_is, s.right_is, s.low_is, s.high_is, ap least_number xs, ap greatest_number xs, ap least_number ys, ap greatest_number ys)

pub none_spans : (ps : List Place) → length ps ≡ 0 → 0 ≡ half_perimeter ps
none_spans [] h = refl
none_spans (p ∷ ps) h = absurd (omega (arith, h))

pub how_many : {A : Type 0} (f : A → Place) (ms : List A) (ps : List Place) → length (map f ms ++ ps) ≡ length ms + length ps
how_many f ms ps = length-append (map f ms) ps ∙ ap (λ (n : ℕ). n + length ps) (length-map ms f)
