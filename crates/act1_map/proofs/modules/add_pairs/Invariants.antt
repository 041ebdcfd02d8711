use Rattle.std.proofs.Common.{◌≡◌, ◌+◌, ◌*◌, ◌-◌, ◌++◌, drop, length}
use Rattle.act1_map.specs.MapSteps.{latch_modules}
use Rattle.act1_map.proofs.modules.add_pairs.Given as goal

-- with those to come these are all
abbrev pub invariant-loop-takes : goal.invariant-loop-takes
invariant-loop-takes l =
    (l.modules ++ latch_modules l.sources (length l.modules) (drop l.takes-index l.next) ≡ l.fn.modules ++ latch_modules l.sources (length l.fn.modules) l.next)
    × (length l.modules + 2 * (length l.next - l.takes-index) ≡ length l.fn.modules + 2 * length l.next)
