use Rattle.std.proofs.Common.{◌≡◌, ◌<◌, ◌≤◌, take}
use Rattle.std.specs.Fmt.{decimal}
use Rattle.std.specs.Str.Parse.{digits_value}
use Rattle.act1_base.proofs.number.read_number.Given as goal

-- the bytes so far spell the value
abbrev pub invariant-loop-i : goal.invariant-loop-i
invariant-loop-i l = (l.value ≤ l.most) × (l.value ≡ digits_value 10 (take l.i l.bytes)) × (0 < l.i → take l.i l.bytes ≡ decimal l.value)
