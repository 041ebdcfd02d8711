-- Nets, one after the other.
use Rattle.std.proofs.Common.{ℕ, ◌≡◌, ◌+◌, List, [], ◌∷◌, ◌++◌, map, sym, ap, ◌∙◌, append_assoc}
use Rattle.std.proofs.lemmas.List.{map_push}
use Rattle.act1_circuit.specs.declared.circuit.Source.{Source}
use Rattle.act1_circuit.specs.declared.circuit.Source.TheVariants.{Input, Module}
use Rattle.act1_base.specs.Lists.{numbers}
use Rattle.act1_plan.proofs.OrderLoops.{numbers_more}
use Rattle.act1_groute.specs.declared.net.Net.{Net}
use Rattle.act1_groute.specs.Nets.{Sink}
use Rattle.act1_groute.specs.RouteSteps.{net_with}

-- one net more
pub input_next : (all : List Sink) (n : ℕ) (nets more : List Net) → nets ≡ map (net_with all) (map Input (numbers 0 n)) → more ≡ nets ++ net_with all (Input n) ∷ [] → more ≡ map (net_with all) (map Input (numbers 0 (n + 1)))
input_next all n nets more e grown =
    grown ∙ ap (λ (ns : List Net). ns ++ net_with all (Input n) ∷ []) e
    ∙ sym (ap (λ (ns : List ℕ). map (net_with all) (map Input ns)) (numbers_more n) ∙ ap (map (net_with all)) (map_push Input (numbers 0 n) n) ∙ map_push (net_with all) (map Input (numbers 0 n)) (Input n))

pub module_next : (all : List Sink) (ins : List Source) (n : ℕ) (nets more : List Net) → nets ≡ map (net_with all) (ins ++ map Module (numbers 0 n)) → more ≡ nets ++ net_with all (Module n) ∷ [] → more ≡ map (net_with all) (ins ++ map Module (numbers 0 (n + 1)))
module_next all ins n nets more e grown =
    grown ∙ ap (λ (ns : List Net). ns ++ net_with all (Module n) ∷ []) e
    ∙ sym (ap (λ (ns : List ℕ). map (net_with all) (ins ++ map Module ns)) (numbers_more n)
    ∙ ap (λ (ss : List Source). map (net_with all) (ins ++ ss)) (map_push Module (numbers 0 n) n)
    ∙ ap (map (net_with all)) (sym (append_assoc ins (map Module (numbers 0 n)) (Module n ∷ [])))
    ∙ map_push (net_with all) (ins ++ map Module (numbers 0 n)) (Module n))
