-- Sources that are the same.
use Rattle.std.proofs.Common.{◌≡◌, true, refl, ap}
use Rattle.std.proofs.lemmas.Bool.{eqb-true, eq-eqb, false≢true}
use Rattle.act1_circuit.specs.declared.circuit.Source.{Source}
use Rattle.act1_circuit.specs.declared.circuit.Source.TheVariants.{Zero, One, Clock, Input, Module}
use Rattle.act1_plan.specs.Nets.{is_same_source}

pub same_source_is : (a b : Source) → is_same_source a b ≡ true → a ≡ b
same_source_is Zero Zero h = refl
same_source_is Zero One h = absurd (false≢true h)
same_source_is Zero Clock h = absurd (false≢true h)
same_source_is Zero (Input j) h = absurd (false≢true h)
same_source_is Zero (Module j) h = absurd (false≢true h)
same_source_is One Zero h = absurd (false≢true h)
same_source_is One One h = refl
same_source_is One Clock h = absurd (false≢true h)
same_source_is One (Input j) h = absurd (false≢true h)
same_source_is One (Module j) h = absurd (false≢true h)
same_source_is Clock Zero h = absurd (false≢true h)
same_source_is Clock One h = absurd (false≢true h)
same_source_is Clock Clock h = refl
same_source_is Clock (Input j) h = absurd (false≢true h)
same_source_is Clock (Module j) h = absurd (false≢true h)
same_source_is (Input i) Zero h = absurd (false≢true h)
same_source_is (Input i) One h = absurd (false≢true h)
same_source_is (Input i) Clock h = absurd (false≢true h)
same_source_is (Input i) (Input j) h = ap Input (eqb-true i j h)
same_source_is (Input i) (Module j) h = absurd (false≢true h)
same_source_is (Module i) Zero h = absurd (false≢true h)
same_source_is (Module i) One h = absurd (false≢true h)
same_source_is (Module i) Clock h = absurd (false≢true h)
same_source_is (Module i) (Input j) h = absurd (false≢true h)
same_source_is (Module i) (Module j) h = ap Module (eqb-true i j h)

pub source_is_itself : (a : Source) → is_same_source a a ≡ true
source_is_itself Zero = refl
source_is_itself One = refl
source_is_itself Clock = refl
source_is_itself (Input i) = eq-eqb i i refl
source_is_itself (Module m) = eq-eqb m m refl
