-- The rules of device files, in the order of refusals. They are this project's own.
use Rattle.std.specs.Prelude.{ℕ, Bool, true, ◌&&◌, if◌then◌else◌, List, [], ◌∷◌, ◌++◌, map, codes, Option, Some, None, is_some}
use Rattle.std.specs.List.{list_any}
use Rattle.std.specs.Str.{bytes_eq}
use Rattle.toml.specs.Data.{Members, no_members, member, get_member}
use Rattle.act1_device.specs.Rules.{is_device_name, are_channels, are_in_order, are_apart}
use Rattle.act1_devread.specs.declared.fault.DeviceFault.{DeviceFault}
use Rattle.act1_devread.specs.declared.fault.DeviceKind.{DeviceKind}
use Rattle.act1_devread.specs.declared.fault.DeviceKind.TheVariants.{Missing, Kind, Range, Order, Pads, Unknown}
use Rattle.act1_devread.specs.declared.values.Values.{Values}
use Rattle.act1_devread.specs.Document.{integer_at, text_at, tracks_at, pairs_at, values_of}
use Rattle.act1_devread.specs.Range.{natural, naturals, is_number, are_letters, are_longs, are_places, place_of}

-- a rule, with the kind and the key that a document which breaks it is refused with
pub record Rule : Type 0 where
  pub kind : DeviceKind
  pub key : ℕ
  pub holds : Bool

-- such a rule
abbrev pub rule : DeviceKind → ℕ → Bool → Rule
rule kind key holds = record { kind = kind; key = key; holds = holds }

-- each key is there
unfoldable pub missing_rules : Members → List Rule
missing_rules ms =
    rule Missing 1 (is_some (get_member (codes "format") ms))
    ∷ rule Missing 2 (is_some (get_member (codes "name") ms))
    ∷ rule Missing 3 (is_some (get_member (codes "rows") ms))
    ∷ rule Missing 4 (is_some (get_member (codes "columns") ms))
    ∷ rule Missing 5 (is_some (get_member (codes "pins") ms))
    ∷ rule Missing 6 (is_some (get_member (codes "below") ms))
    ∷ rule Missing 7 (is_some (get_member (codes "above") ms))
    ∷ rule Missing 8 (is_some (get_member (codes "tracks") ms))
    ∷ rule Missing 9 (is_some (get_member (codes "longs") ms))
    ∷ rule Missing 10 (is_some (get_member (codes "pads") ms))
    ∷ []

-- each value is of its kind
unfoldable pub kind_rules : Members → List Rule
kind_rules ms =
    rule Kind 1 (is_some (integer_at (codes "format") ms))
    ∷ rule Kind 2 (is_some (text_at (codes "name") ms))
    ∷ rule Kind 3 (is_some (integer_at (codes "rows") ms))
    ∷ rule Kind 4 (is_some (integer_at (codes "columns") ms))
    ∷ rule Kind 5 (is_some (text_at (codes "pins") ms))
    ∷ rule Kind 6 (is_some (integer_at (codes "below") ms))
    ∷ rule Kind 7 (is_some (integer_at (codes "above") ms))
    ∷ rule Kind 8 (is_some (tracks_at (codes "tracks") ms))
    ∷ rule Kind 9 (is_some (pairs_at (codes "longs") ms))
    ∷ rule Kind 10 (is_some (pairs_at (codes "pads") ms))
    ∷ []

-- each number and text is in its range
unfoldable pub size_rules : Values → List Rule
size_rules v =
    rule Range 1 (is_number 1 1 v.format)
    ∷ rule Range 2 (is_device_name v.name)
    ∷ rule Range 3 (is_number 1 32 v.rows)
    ∷ rule Range 4 (is_number 2 64 v.columns)
    ∷ rule Range 5 (are_letters v.pins)
    ∷ rule Range 6 (is_number 0 32 v.below)
    ∷ rule Range 7 (is_number 0 32 v.above)
    ∷ []

-- each list is in its range, the breaks of each track rise, and no two pads are at one place
unfoldable pub list_rules : Values → List Rule
list_rules v =
    rule Range 8 (are_channels (natural v.rows) (natural v.columns) (naturals v.tracks))
    ∷ rule Range 9 (are_longs (natural v.rows) v.longs)
    ∷ rule Range 10 (are_places (natural v.rows) (natural v.columns) v.pads)
    ∷ rule Order 8 (are_in_order (naturals v.tracks))
    ∷ rule Pads 10 (are_apart (map place_of v.pads))
    ∷ []

-- the keys of a device file
abbrev pub device_keys : List (List ℕ)
device_keys =
    codes "format" ∷ codes "name" ∷ codes "rows" ∷ codes "columns" ∷ codes "pins"
    ∷ codes "below" ∷ codes "above" ∷ codes "tracks" ∷ codes "longs" ∷ codes "pads" ∷ []

-- one of the ten keys
abbrev pub is_known : List ℕ → Bool
is_known key = list_any (bytes_eq key) device_keys

-- each member's key is one of them
abbrev pub has_only_known : Members → Bool
has_only_known no_members = true
has_only_known (member key d ms) = is_known key && has_only_known ms

-- there is no other key
unfoldable pub unknown_rules : Members → List Rule
unknown_rules ms = rule Unknown 0 (has_only_known ms) ∷ []

-- the rules of a device file, in the order of refusals
unfoldable pub rules_of : Members → List Rule
rules_of ms =
    missing_rules ms ++ (kind_rules ms ++ (size_rules (values_of ms) ++ (list_rules (values_of ms) ++ unknown_rules ms)))

-- the kind and the key of the first rule that is broken
unfoldable pub first_fault : List Rule → Option DeviceFault
first_fault [] = None
first_fault (r ∷ rs) = if r.holds then first_fault rs else Some (record { kind = r.kind; key = r.key })
