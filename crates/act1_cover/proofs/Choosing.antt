-- The forest of a cover is that of its diagram or of its chain, by the limit of forks.
use Rattle.std.proofs.Common.{ℕ, ◌≡◌, ◌≤◌, List, inl, inr, sym, subst, length}
use Rattle.std.specs.Prelude.{Result, Ok, Err, IfOk}
use Rattle.act1_base.specs.declared.memory.Memory.{Memory}
use Rattle.act1_logic.specs.declared.cover.Cover.{Cover}
use Rattle.act1_logic.specs.Rows.{literals_of}
use Rattle.act1_dd.specs.Forks.{HasMoreForks}
use Rattle.act1_dd.specs.declared.refs.Branch.{Branch}
use Rattle.act1_dd.specs.declared.fault.DdFault.{DdFault}
use Rattle.act1_dd.specs.declared.fault.DdFault.TheVariants as fault
use Rattle.act1_dd.specs.Limit.{first_rows, IsLimit, GivesDiagram}
use Rattle.act1_cover.specs.declared.forest.Forest.{Forest}
use Rattle.act1_cover.specs.Forests.{IsForestOf}
use Rattle.act1_cover.specs.Least.{IsForest}
use Rattle.act1_cover.specs.Denotes.{diagram_of, chain_of, IsForestOfCover, HasValueOf}
use Rattle.act1_cover.proofs.Denoting.{forests_denote}

module _ (cover : Cover) where
  pub by_diagram : (limit : ℕ) → limit ≡ literals_of cover.rows → ((k : ℕ) → k ≤ length cover.rows → ¬ HasMoreForks (first_rows cover k) limit) → (r : Result Forest Memory) → IfOk r (IsForestOf (diagram_of cover)) → IfOk r (IsForestOfCover cover)
  by_diagram limit e few (Ok forest) h = inl ((λ k low more. few k low (subst (λ (n : ℕ). HasMoreForks (first_rows cover k) n) (sym e) more)), h)
  by_diagram limit e few (Err m) h = tt

  pub by_chain : (limit k : ℕ) → limit ≡ literals_of cover.rows → IsLimit cover limit k → (r : Result Forest Memory) → IfOk r (IsForestOf (chain_of cover)) → IfOk r (IsForestOfCover cover)
  by_chain limit k e over (Ok forest) h = inr (k, over.within, subst (λ (n : ℕ). HasMoreForks (first_rows cover k) n) e over.more, h)
  by_chain limit k e over (Err m) h = tt

  -- such a forest is one, and has the cover's value
  pub are_forests : (r : Result Forest Memory) → IfOk r (IsForestOfCover cover) → IfOk r IsForest
  are_forests (Ok forest) h = (forests_denote cover forest h).0
  are_forests (Err m) h = tt

  pub have_value : (r : Result Forest Memory) → IfOk r (IsForestOfCover cover) → IfOk r (HasValueOf cover)
  have_value (Ok forest) h = (forests_denote cover forest h).1
  have_value (Err m) h = tt

  pub by_fault : (limit : ℕ) (forks : List Branch) (e : DdFault) (k : ℕ) → e ≡ fault.Limit k → limit ≡ literals_of cover.rows → GivesDiagram cover limit forks (Err e) → (r : Result Forest Memory) → IfOk r (IsForestOf (chain_of cover)) → IfOk r (IsForestOfCover cover)
  by_fault limit forks e k is few h = by_chain limit k few (subst (λ (d : DdFault). GivesDiagram cover limit forks (Err d)) is h)
