-- Each text is a device's or refused: a document that breaks no rule is the text of a device.
use Rattle.std.proofs.Common.{◌≡◌, ℕ, List, map, Some, None, Option, refl, ◌⊎◌, inl, inr}
use Rattle.std.specs.Prelude.{IsUtf8}
use Rattle.std.specs.Str.{is_utf8}
use Rattle.std.proofs.lemmas.Bool.{cases_Bool, both_ways}
use Rattle.std.proofs.lemmas.Str.{IsUtf8-from_is_utf8, is_utf8-from_IsUtf8}
use Rattle.toml.specs.Data.{Members}
use Rattle.toml.specs.Parse.{parse_document}
use Rattle.act1_device.specs.declared.device.Device.{Device}
use Rattle.act1_devread.specs.declared.fault.DeviceFault.{DeviceFault}
use Rattle.act1_devread.specs.declared.fault.DeviceKind.TheVariants.{Text}
use Rattle.act1_devread.specs.declared.values.Values.{Values}
use Rattle.act1_devread.specs.Document.{IsDocument, values_of}
use Rattle.act1_devread.specs.Range.{natural, naturals, pins_of, long_of, place_of}
use Rattle.act1_devread.specs.Rules.{first_fault, rules_of, missing_rules, kind_rules, size_rules, list_rules}
use Rattle.act1_devread.specs.Laws.{IsDevices, IsRefused, EachText}
use Rattle.act1_devread.specs.Text.{HasValues, no_document, broken}
use Rattle.act1_devread.proofs.FaultOrder.{first_holds, both_hold}
use Rattle.act1_devread.proofs.Valid.{device_of_values}

-- the device of values that break no rule
device_from : (v : Values) → first_fault (size_rules v) ≡ None → first_fault (list_rules v) ≡ None → (dev : Device) × HasValues v dev
unfolding list_rules
device_from v sizes lists =
    let tracks = first_holds _ _ lists in
    let longs = first_holds _ _ tracks.1 in
    let pads = first_holds _ _ longs.1 in
    let order = first_holds _ _ pads.1 in
    let apart = first_holds _ _ order.1 in (
      record {
        name = v.name;
        rows = natural v.rows;
        columns = natural v.columns;
        pins = pins_of v.pins;
        below = natural v.below;
        above = natural v.above;
        tracks = naturals v.tracks;
        longs = map long_of v.longs;
        pads = map place_of v.pads;
        valid = device_of_values v
            (record { rows = natural v.rows; columns = natural v.columns; pins = pins_of v.pins; below = natural v.below; above = natural v.above })
            (naturals v.tracks) (map long_of v.longs) (map place_of v.pads) sizes
            (record { rows = refl; columns = refl; pins = refl; below = refl; above = refl })
            refl refl refl tracks.0 longs.0 pads.0 order.0 apart.0;
      },
      record { name = refl; rows = refl; columns = refl; pins = refl; below = refl; above = refl; tracks = refl; longs = refl; pads = refl },
    )

of_rules : (bytes : List ℕ) (ms : Members) → IsDocument bytes ms → (o : Option DeviceFault) → first_fault (rules_of ms) ≡ o → IsDevices bytes ⊎ IsRefused bytes
unfolding rules_of
of_rules bytes ms read (Some e) fault = inr (e.kind, e.key, broken ms read fault)
of_rules bytes ms read None none =
    let after_missing = both_hold (missing_rules ms) _ none in
    let after_kinds = both_hold (kind_rules ms) _ after_missing.1 in
    let after_sizes = both_hold (size_rules (values_of ms)) _ after_kinds.1 in
    let after_lists = both_hold (list_rules (values_of ms)) _ after_sizes.1 in
    let device = device_from (values_of ms) after_sizes.0 after_lists.0 in
    inl (device.0, record { members = ms; document = read; rules = none; values = device.1 })

of_document : (bytes : List ℕ) → IsUtf8 bytes → (o : Option Members) → parse_document bytes ≡ o → IsDevices bytes ⊎ IsRefused bytes
of_document bytes utf8 None none = inr (Text, 0, no_document (λ _. none))
of_document bytes utf8 (Some ms) read = of_rules bytes ms (utf8, read) (first_fault (rules_of ms)) refl

pub each_text : EachText
each_text bytes = elim (cases_Bool (is_utf8 bytes)) [
  | inl utf8 ↦ of_document bytes (IsUtf8-from_is_utf8 bytes utf8) (parse_document bytes) refl
  | inr other ↦ inr (Text, 0, no_document (λ utf8. absurd (both_ways _ other (is_utf8-from_IsUtf8 bytes utf8))))
]
