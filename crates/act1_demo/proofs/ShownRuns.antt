-- What a netlist shows, cycle by cycle.
use Rattle.std.proofs.Common.{ℕ, ◌≡◌, ◌+◌, ◌<◌, ◌≤◌, Bool, false, List, [], ◌∷◌, ◌++◌, length, drop, get_or, replicate, append-nil, refl, sym, ap, subst, ◌∙◌, append_assoc}
use Rattle.std.proofs.lemmas.List.{drop_all, drop_more, length-map, flat_map_more}
use Rattle.act1_blif.specs.declared.blif.Blif.{Blif}
use Rattle.act1_blif.specs.declared.blif.Latch.{Latch}
use Rattle.act1_blif.specs.Run.{Fits, Shows, next_state, signal, signals}
use Rattle.act1_demo.specs.Shown.{AreLinesOver, shown_line, vectors_of}
use Rattle.act1_demo.specs.ShownSteps.{IsShownSoFar}

-- one cycle more
next_cycle : (net : Blif) (first : List Bool) (vectors : List (List Bool)) (q new x v : List Bool) (rest : List (List Bool)) (text added : List ℕ)
    → IsShownSoFar net first vectors q (x ∷ rest) text → Fits net q x v → added ≡ text ++ shown_line (signals v net.outputs) → new ≡ next_state net v
    → IsShownSoFar net first vectors new rest added
next_cycle net first vectors q new x v rest text added old fits added_is new_is =
    let line = signals v net.outputs in
    record {
      one_each = ap length new_is ∙ length-map net.latches (λ (latch : Latch). signal v latch.input);
      so_far = old.so_far ++ line ∷ [];
      goes_on = λ more h.
          subst (λ (shown : List (List Bool)). Shows net first vectors shown) (sym (append_assoc old.so_far (line ∷ []) more))
          (old.goes_on (line ∷ more) (v, fits, refl, subst (λ (state : List Bool). Shows net state rest more) new_is h));
      text_is = added_is ∙ ap (λ (t : List ℕ). t ++ shown_line line) old.text_is ∙ flat_map_more shown_line [] old.so_far line;
    }

-- at the end it has shown all
pub at_last : (net : Blif) (vectors : List (List Bool)) (inputs : List Bool) (i : ℕ) (q : List Bool) (text : List ℕ) → length inputs ≤ i
    → IsShownSoFar net (replicate (length net.latches) false) vectors q (vectors_of (drop i inputs)) text → AreLinesOver net vectors text
at_last net vectors inputs i q text past h =
    let first = replicate (length net.latches) false in
    let all_done : vectors_of (drop i inputs) ≡ [] = ap vectors_of (drop_all i inputs past) in
    record {
      shown = h.so_far;
      shows = subst (λ (shown : List (List Bool)). Shows net first vectors shown) (append-nil h.so_far) (h.goes_on [] (subst (λ (xs : List (List Bool)). Shows net q xs []) (sym all_done) tt));
      text_is = h.text_is;
    }

-- one cycle more, as the code reads its values
pub next_turn : (net : Blif) (first inputs : List Bool) (i : ℕ) (d : Bool) (q read new v printed taken : List Bool) (text added : List ℕ) → i < length inputs
    → IsShownSoFar net first (vectors_of inputs) q (vectors_of (drop i inputs)) text → read ≡ q → Fits net read (get_or inputs i d ∷ []) v
    → printed ≡ v → added ≡ text ++ shown_line (signals printed net.outputs) → taken ≡ v → new ≡ next_state net taken
    → IsShownSoFar net first (vectors_of inputs) new (vectors_of (drop (i + 1) inputs)) added
next_turn net first inputs i d q read new v printed taken text added low old read_is fits printed_is added_is taken_is new_is =
    let x = get_or inputs i d ∷ [] in
    next_cycle net first (vectors_of inputs) q new x v (vectors_of (drop (i + 1) inputs)) text added
    (subst (λ (xs : List (List Bool)). IsShownSoFar net first (vectors_of inputs) q xs text) (ap vectors_of (drop_more inputs i d low)) old)
    (subst (λ (state : List Bool). Fits net state x v) read_is fits)
    (added_is ∙ ap (λ (values : List Bool). text ++ shown_line (signals values net.outputs)) printed_is)
    (new_is ∙ ap (next_state net) taken_is)
