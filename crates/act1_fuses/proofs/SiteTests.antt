-- A site's test says whether it is one.
use Rattle.std.proofs.Common.{◌≡◌, Bool, true, false, IsTrue, refl, inl, inr, ◌↔◌}
use Rattle.act1_device.specs.declared.device.Device.{Device}
use Rattle.act1_device.specs.declared.device.Site.{Site}
use Rattle.act1_device.specs.Sites.{IsSite}
use Rattle.act1_fuses.specs.SiteTest.{Decided, holds, decided_site, is_site}

is_test : {P : Type 0} (b : Bool) (d : Decided P) → (IsTrue b → P) → (P → IsTrue b) → b ≡ holds d
is_test b (inl p) to from = from p
is_test true (inr q) to from = absurd (q (to refl))
is_test false (inr q) to from = refl

-- a test of a site is this one
pub tested_site : (dev : Device) (site : Site) (b : Bool) → (IsTrue b ↔ IsSite dev site) → b ≡ is_site dev site
tested_site dev site b h = is_test b (decided_site dev site) h.0 h.1

holds_is : {P : Type 0} (d : Decided P) → IsTrue (holds d) → P
holds_is (inl p) h = p
holds_is (inr q) h = cc

is_holds : {P : Type 0} (d : Decided P) → P → IsTrue (holds d)
is_holds (inl p) h = refl
is_holds (inr q) h = absurd (q h)

pub site_if : (dev : Device) (site : Site) → IsTrue (is_site dev site) → IsSite dev site
site_if dev site = holds_is (decided_site dev site)

pub site_then : (dev : Device) (site : Site) → IsSite dev site → IsTrue (is_site dev site)
site_then dev site = is_holds (decided_site dev site)
