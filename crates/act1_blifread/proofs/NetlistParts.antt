-- What is built by the places of the signals is what the statements say.
use Rattle.std.proofs.Common.{ℕ, ◌≡◌, true, not, List, [], ◌∷◌, length, map, Option, Some, codes, refl, sym, ap, subst, ◌∙◌}
use Rattle.std.specs.Prelude.{filter, nat_lt, nat_le, option_map, unwrap_or}
use Rattle.std.specs.List.{cons_option}
use Rattle.std.proofs.lemmas.Bool.{and_parts}
use Rattle.act1_blif.specs.declared.blif.Latch.{Latch}
use Rattle.act1_blif.specs.declared.blif.Node.{Node}
use Rattle.act1_blif.specs.Rules.{HasLevels, is_blif}
use Rattle.act1_bliftext.specs.Rules.{are_below, is_control, is_statement}
use Rattle.act1_bliftext.specs.declared.statement.NumberedStatement.{NumberedStatement}
use Rattle.act1_bliftext.specs.declared.statement.Statement.{Statement}
use Rattle.act1_bliftext.specs.declared.statement.Statement.TheVariants as said
use Rattle.act1_bliftext.specs.declared.statements.Statements.{Statements}
use Rattle.act1_order.specs.Laws.{LevelsWithoutRing}
use Rattle.act1_blifread.specs.Parts.{all_of, clock_of, data_inputs, input_names, is_clock, output_names, signals_of}
use Rattle.act1_blifread.specs.Faults.{IsWhole}
use Rattle.act1_blifread.specs.Netlist.{latch_of, latches_of, name_at, node_of, nodes_of, signal_at}
use Rattle.act1_blifread.specs.NetlistSteps.{AreSignals, ArePlaces, are_within, latch_at, latches_at, node_at, nodes_at, number_at}
use Rattle.act1_blifread.proofs.BuiltNetlists.{built_valid}
use Rattle.act1_blifread.proofs.NodeGraphs.{all_below, below_true, names_parts}
use Rattle.act1_blifread.proofs.NodeLevels.{built_levels}
use Rattle.act1_blifread.proofs.SignalLists.{latch_parts, output_below}
use Rattle.act1_blifread.proofs.StatementRules.{kept}

module _ (count : ℕ) (signals : List ℕ) (places : List (Option ℕ)) (known : ArePlaces count signals places) where
  number_is : (n : ℕ) → nat_lt n count ≡ true → number_at places n ≡ signal_at signals n
  number_is n low = ap (λ (o : Option ℕ). unwrap_or o 0) (known.each n (below_true count n low))

  numbers_are : (ns : List ℕ) → are_below count ns ≡ true → map (number_at places) ns ≡ map (signal_at signals) ns
  numbers_are [] e = refl
  numbers_are (n ∷ ns) e =
      let parts = and_parts (nat_lt n count) (are_below count ns) e in
      ap (λ (k : ℕ). k ∷ map (number_at places) ns) (number_is n parts.0) ∙ ap (λ (ks : List ℕ). signal_at signals n ∷ ks) (numbers_are ns parts.1)

  latches_are : (names : List (List ℕ)) (ts : List NumberedStatement) → are_within count ts ≡ true → latches_at names places ts ≡ latches_of names signals ts
  latches_are names [] e = refl
  latches_are names (t ∷ ts) e =
      let parts = and_parts (is_statement count t.statement) (are_within count ts) e in
      ap (λ (o : Option Latch). cons_option o (latches_at names places ts)) (one t.statement parts.0) ∙ ap (cons_option (latch_of names signals t.statement)) (latches_are names ts parts.1)
    where
      one : (u : Statement) → is_statement count u ≡ true → latch_at names places u ≡ latch_of names signals u
      one (said.Inputs ns) e = refl
      one (said.Outputs ns) e = refl
      one (said.Clock ns) e = refl
      one (said.Names inputs output cover) e = refl
      one (said.Latch input output control init) e =
          ap (λ (k : ℕ). let r : Option Latch = Some (record { name = name_at names output; input = k; init = init }) in r) (number_is input (latch_parts (nat_lt input count) (nat_lt output count) (is_control count control) (nat_le init 3) e).0)

  nodes_are : (names : List (List ℕ)) (ts : List NumberedStatement) → are_within count ts ≡ true → nodes_at names places ts ≡ nodes_of names signals ts
  nodes_are names [] e = refl
  nodes_are names (t ∷ ts) e =
      let parts = and_parts (is_statement count t.statement) (are_within count ts) e in
      ap (λ (o : Option Node). cons_option o (nodes_at names places ts)) (one t.statement parts.0) ∙ ap (cons_option (node_of names signals t.statement)) (nodes_are names ts parts.1)
    where
      one : (u : Statement) → is_statement count u ≡ true → node_at names places u ≡ node_of names signals u
      one (said.Inputs ns) e = refl
      one (said.Outputs ns) e = refl
      one (said.Clock ns) e = refl
      one (said.Names inputs output cover) e =
          ap (λ (ks : List ℕ). let r : Option Node = Some (record { name = name_at names output; inputs = ks; cover = cover }) in r) (numbers_are inputs (names_parts (are_below count inputs) (nat_lt output count) _ e).0)
      one (said.Latch input output control init) e = refl

-- the parts of the netlist that the statements say
pub record AreParts (s : Statements) (model : List ℕ) (clock : Option (List ℕ)) (inputs : List (List ℕ)) (latches : List Latch) (nodes : List Node) (outputs : List ℕ) : Type 0 where
  pub model_is : model ≡ unwrap_or s.model (codes "top")
  pub clock_is : clock ≡ option_map (name_at s.names) (clock_of s.statements)
  pub inputs_are : inputs ≡ map (name_at s.names) (data_inputs s.statements)
  pub latches_are : latches ≡ latches_of s.names (signals_of s.statements) s.statements
  pub nodes_are : nodes ≡ nodes_of s.names (signals_of s.statements) s.statements
  pub outputs_are : outputs ≡ map (signal_at (signals_of s.statements)) (all_of output_names s.statements)

-- they are those that are built by the places of the signals
pub are_parts : (s : Statements) (clock : Option ℕ) (places : List (Option ℕ)) (model : List ℕ) (clock_name : Option (List ℕ)) (inputs : List (List ℕ)) (latches : List Latch) (nodes : List Node) (outputs : List ℕ)
    → AreSignals s clock places → model ≡ unwrap_or s.model (codes "top") → clock_name ≡ option_map (name_at s.names) clock
    → inputs ≡ map (name_at s.names) (filter (λ n. not (is_clock clock n)) (all_of input_names s.statements)) → latches ≡ latches_at s.names places s.statements → nodes ≡ nodes_at s.names places s.statements
    → outputs ≡ map (number_at places) (all_of output_names s.statements) → AreParts s model clock_name inputs latches nodes outputs
are_parts s clock places model clock_name inputs latches nodes outputs known m c i l n o =
    let count = length s.names in
    let signals = signals_of s.statements in
    record {
      model_is = m;
      clock_is = c ∙ ap (option_map (name_at s.names)) known.clock_is;
      inputs_are = i ∙ ap (λ (k : Option ℕ). map (name_at s.names) (filter (λ n. not (is_clock k n)) (all_of input_names s.statements))) known.clock_is;
      latches_are = l ∙ latches_are count signals places known.places_are s.names s.statements (kept s).within;
      nodes_are = n ∙ nodes_are count signals places known.places_are s.names s.statements (kept s).within;
      outputs_are = o ∙ numbers_are count signals places known.places_are (all_of output_names s.statements) (all_below output_names count s.statements (output_below count) (kept s).within);
    }

-- the same over slices of the names, the places and the statements
pub are_built : (s : Statements) (clock : Option ℕ) (places at : List (Option ℕ)) (names : List (List ℕ)) (ns : List ℕ) (ss two three : List NumberedStatement)
    (model : List ℕ) (clock_name : Option (List ℕ)) (inputs : List (List ℕ)) (latches : List Latch) (nodes : List Node) (outputs : List ℕ)
    → AreSignals s clock places → names ≡ s.names → at ≡ places → ss ≡ s.statements → two ≡ s.statements → three ≡ s.statements → ns ≡ filter (λ n. not (is_clock clock n)) (all_of input_names ss)
    → model ≡ unwrap_or s.model (codes "top") → clock_name ≡ option_map (name_at names) clock → inputs ≡ map (name_at names) ns → latches ≡ latches_at names at two → nodes ≡ nodes_at names at s.statements
    → outputs ≡ map (number_at at) (all_of output_names three) → AreParts s model clock_name inputs latches nodes outputs
are_built s clock places at names ns ss two three model clock_name inputs latches nodes outputs known a b d e f g m c i l n o =
    are_parts s clock places model clock_name inputs latches nodes outputs known m
    (c ∙ ap (λ (ks : List (List ℕ)). option_map (name_at ks) clock) a)
    (i ∙ ap (λ (ks : List (List ℕ)). map (name_at ks) ns) a ∙ ap (map (name_at s.names)) (g ∙ ap (λ (ts : List NumberedStatement). filter (λ k. not (is_clock clock k)) (all_of input_names ts)) d))
    (l ∙ ap (λ (ks : List (List ℕ)). latches_at ks at two) a ∙ ap (λ (ps : List (Option ℕ)). latches_at s.names ps two) b ∙ ap (latches_at s.names places) e)
    (n ∙ ap (λ (ks : List (List ℕ)). nodes_at ks at s.statements) a ∙ ap (λ (ps : List (Option ℕ)). nodes_at s.names ps s.statements) b)
    (o ∙ ap (λ (ps : List (Option ℕ)). map (number_at ps) (all_of output_names three)) b ∙ ap (λ (ts : List NumberedStatement). map (number_at places) (all_of output_names ts)) f)

module _ (s : Statements) (whole : IsWhole s.statements) (model : List ℕ) (clock : Option (List ℕ)) (inputs : List (List ℕ)) (latches : List Latch) (nodes : List Node) (outputs : List ℕ) (are : AreParts s model clock inputs latches nodes outputs) where
  -- they keep the rules
  pub parts_fit : is_blif model clock inputs latches nodes outputs ≡ true
  parts_fit =
      subst (λ (m : List ℕ). is_blif m clock inputs latches nodes outputs ≡ true) (sym are.model_is)
      (subst (λ (c : Option (List ℕ)). is_blif (unwrap_or s.model (codes "top")) c inputs latches nodes outputs ≡ true) (sym are.clock_is)
      (subst (λ (i : List (List ℕ)). is_blif (unwrap_or s.model (codes "top")) (option_map (name_at s.names) (clock_of s.statements)) i latches nodes outputs ≡ true) (sym are.inputs_are)
      (subst (λ (l : List Latch). is_blif (unwrap_or s.model (codes "top")) (option_map (name_at s.names) (clock_of s.statements)) (map (name_at s.names) (data_inputs s.statements)) l nodes outputs ≡ true) (sym are.latches_are)
      (subst (λ (n : List Node). is_blif (unwrap_or s.model (codes "top")) (option_map (name_at s.names) (clock_of s.statements)) (map (name_at s.names) (data_inputs s.statements)) (latches_of s.names (signals_of s.statements) s.statements) n outputs ≡ true) (sym are.nodes_are)
      (subst (λ (o : List ℕ). is_blif (unwrap_or s.model (codes "top")) (option_map (name_at s.names) (clock_of s.statements)) (map (name_at s.names) (data_inputs s.statements)) (latches_of s.names (signals_of s.statements) s.statements) (nodes_of s.names (signals_of s.statements) s.statements) o ≡ true) (sym are.outputs_are)
      (built_valid s whole))))))

  -- and have no ring
  pub parts_levels : LevelsWithoutRing → HasLevels inputs latches nodes
  parts_levels leveled =
      subst (λ (i : List (List ℕ)). HasLevels i latches nodes) (sym are.inputs_are)
      (subst (λ (l : List Latch). HasLevels (map (name_at s.names) (data_inputs s.statements)) l nodes) (sym are.latches_are)
      (subst (λ (n : List Node). HasLevels (map (name_at s.names) (data_inputs s.statements)) (latches_of s.names (signals_of s.statements) s.statements) n) (sym are.nodes_are) (built_levels leveled s whole)))
