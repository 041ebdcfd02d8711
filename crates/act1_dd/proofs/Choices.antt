-- A choice that is made of its two sides, while the forks grow from `old` over `mid` to `now`.
use Rattle.std.proofs.Common.{◌+◌, true, false, List}
use Rattle.act1_dd.specs.declared.refs.Ref.{Ref}
use Rattle.act1_dd.specs.declared.refs.Branch.{Branch}
use Rattle.act1_dd.specs.declared.refs.Choice.{Choice}
use Rattle.act1_dd.specs.declared.refs.Split.{Split}
use Rattle.act1_dd.specs.Diagram.{IsRef, IsFrom, IsReduced, IsChoice, IsForkInto, Keeps}
use Rattle.act1_dd.specs.Steps.{AreRefs, IsSplit}
use Rattle.act1_dd.proofs.Growing.{keeps_then}
use Rattle.act1_dd.proofs.Memo.{choice_kept}
use Rattle.act1_dd.proofs.Parts.{side_later, side_value, choice_of_sides}

module _ (old mid now : List Branch) (h : IsReduced old) (h' : IsReduced now) (first : Keeps old mid) (second : Keeps mid now) (c : Choice) (refs : AreRefs old c) (split : Split) (s : IsSplit old c split)
    (low high : Ref) (low_ref : IsRef mid low) (low_is : IsChoice mid split.low.test split.low.yes split.low.no low) (high_ref : IsRef now high) (high_is : IsChoice now split.high.test split.high.yes split.high.no high) where
  both : Keeps old now
  both = keeps_then old mid now first second

  low_now : IsChoice now split.low.test split.low.yes split.low.no low
  low_now = choice_kept mid now second split.low.test split.low.yes split.low.no low (first.refs split.low.test s.low.test.ref) (first.refs split.low.yes s.low.yes.ref) (first.refs split.low.no s.low.no.ref) low_ref low_is

  pub low_later : IsFrom now (split.var + 1) low
  low_later = side_later old now h both split.var false c split.low refs s.low low low_now h' (second.refs low low_ref)

  pub high_later : IsFrom now (split.var + 1) high
  high_later = side_later old now h both split.var true c split.high refs s.high high high_is h' high_ref

  pub made : (last : List Branch) → Keeps now last → (r : Ref) → IsForkInto last split.var low high r → IsChoice last c.test c.yes c.no r
  made last third r into =
      choice_of_sides now last third split.var c low high r (both.refs c.test refs.0, both.refs c.yes refs.1, both.refs c.no refs.2) (second.refs low low_ref) high_ref
      (side_value old now h both split.var false c split.low refs s.low low low_now) (side_value old now h both split.var true c split.high refs s.high high high_is) into
