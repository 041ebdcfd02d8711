-- Each text is refused with one fault or is of one device.
use Rattle.std.proofs.Common.{◌≡◌, ◌≢◌, ℕ, List, Some, None, Option, refl, ap, sym, ◌∙◌, zero, unwrap_or, IsTrue, subst}
use Rattle.std.proofs.Common.{true, Result, Ok, Err, IfErr}
use Rattle.std.proofs.Math.Bool.{Bool-set}
use mathlib.Core.HLevel.{is_prop→PathP}
use Rattle.toml.specs.Data.{Members}
use Rattle.act1_device.specs.Rules.{is_device}
use Rattle.act1_device.specs.declared.device.Device.{Device}
use Rattle.act1_devread.specs.declared.fault.DeviceFault.{DeviceFault}
use Rattle.act1_devread.specs.declared.fault.DeviceKind.TheVariants.{Text, Memory}
use Rattle.act1_devread.specs.Rules.{first_fault, rules_of}
use Rattle.act1_devread.specs.declared.values.Values.{Values}
use Rattle.act1_devread.specs.Document.{IsDocument, values_of}
use Rattle.act1_devread.proofs.FaultOrder.{no_fault}
use Rattle.act1_devread.specs.Laws.{NeverBoth, OneFault, OneDevice}
use Rattle.act1_devread.specs.Text.{HasValues, DeviceBad, no_document, broken}

same_members : (bytes : List ℕ) (ms other : Members) → IsDocument bytes ms → IsDocument bytes other → ms ≡ other
same_members bytes ms other a b = let same : Some ms ≡ Some other = sym a.1 ∙ b.1 in cc

no_members : (ms : Members) → Some ms ≡ None → ⊥
no_members ms h = cc

pub never_both : NeverBoth
never_both bytes dev Text zero d (no_document none) = no_members _ (sym d.document.1 ∙ none d.document.0)
never_both bytes dev why key d (broken ms read fault) =
    let same = same_members bytes ms d.members read d.document in
    no_fault _ (sym fault ∙ (rw same d.rules))

pub one_fault : OneFault
one_fault bytes why other key next (no_document none) (no_document again) = (refl, refl)
one_fault bytes why other key next (no_document none) (broken ms read fault) = absurd (no_members _ (sym read.1 ∙ none read.0))
one_fault bytes why other key next (broken ms read fault) (no_document none) = absurd (no_members _ (sym read.1 ∙ none read.0))
one_fault bytes why other key next (broken ms read fault) (broken ns again more) =
    let same = same_members bytes ns ms again read in
    let faults : Some (record { kind = why; key = key }) ≡ Some (record { kind = other; key = next }) = sym fault ∙ rw (← same) more in (
      ap (λ (o : Option DeviceFault). (unwrap_or o (record { kind = why; key = key })).kind) faults,
      ap (λ (o : Option DeviceFault). (unwrap_or o (record { kind = why; key = key })).key) faults,
    )

-- two devices that are made of the same values are equal, since what they keep has one proof
same_device : (v : Values) (dev other : Device) → HasValues v dev → HasValues v other → dev ≡ other
same_device v dev other a b =
    let name : dev.name ≡ other.name = a.name ∙ sym b.name in
    let rows : dev.rows ≡ other.rows = a.rows ∙ sym b.rows in
    let columns : dev.columns ≡ other.columns = a.columns ∙ sym b.columns in
    let pins : dev.pins ≡ other.pins = a.pins ∙ sym b.pins in
    let below : dev.below ≡ other.below = a.below ∙ sym b.below in
    let above : dev.above ≡ other.above = a.above ∙ sym b.above in
    let tracks : dev.tracks ≡ other.tracks = a.tracks ∙ sym b.tracks in
    let longs : dev.longs ≡ other.longs = a.longs ∙ sym b.longs in
    let pads : dev.pads ≡ other.pads = a.pads ∙ sym b.pads in
    λ i. record {
      name = name i;
      rows = rows i;
      columns = columns i;
      pins = pins i;
      below = below i;
      above = above i;
      tracks = tracks i;
      longs = longs i;
      pads = pads i;
      valid = is_prop→PathP
          (λ j. IsTrue (is_device (name j) (rows j) (columns j) (below j) (above j) (tracks j) (longs j) (pads j)))
          (λ j. Bool-set (is_device (name j) (rows j) (columns j) (below j) (above j) (tracks j) (longs j) (pads j)) true)
          dev.valid other.valid i;
    }

pub one_device : OneDevice
one_device bytes dev other d e =
    let same = same_members bytes e.members d.members e.document d.document in
    same_device (values_of d.members) dev other d.values (subst (λ (ms : Members). HasValues (values_of ms) other) same e.values)

-- a fault of the members is one of the bytes that are their document
pub bad_members : {T : Type 0} (bytes : List ℕ) (ms : Members) → IsDocument bytes ms → (r : Result T DeviceFault)
    → IfErr r (λ e. e.kind ≢ Memory → first_fault (rules_of ms) ≡ Some e) → IfErr r (λ e. e.kind ≢ Memory → DeviceBad bytes e.kind e.key)
bad_members bytes ms read (Ok dev) h = h
bad_members bytes ms read (Err e) h = λ other. broken ms read (h other)
