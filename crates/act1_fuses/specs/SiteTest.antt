-- Whether a site is one of a device, decided part by part. What a site is isn't said anew here.
use Rattle.std.specs.Prelude.{ℕ, ◌+◌, ◌<◌, ◌≤◌, ◌⊎◌, Bool, true, false, length}
use Rattle.std.proofs.Common.{inl, inr, arith}
use Rattle.std.proofs.lemmas.Bool.{cases_lt, cases_eq}
use Rattle.act1_device.specs.declared.device.Device.{Device}
use Rattle.act1_device.specs.declared.device.Track.{Track}
use Rattle.act1_device.specs.declared.device.Track.TheVariants as track
use Rattle.act1_device.specs.declared.device.Line.{Line}
use Rattle.act1_device.specs.declared.device.Line.TheVariants as line
use Rattle.act1_device.specs.declared.device.Site.{Site}
use Rattle.act1_device.specs.declared.device.Site.TheVariants.{Along, Cross}
use Rattle.act1_device.specs.Sites.{IsSite, HasLine, Reaches, Meets, tracks_of, breaks_of, pin_channel, long_at, pad_at}

-- it holds or it fails
abbrev pub Decided : Type 0 → Type 0
Decided P = P ⊎ (P → ⊥)

-- two facts
pub both : {P Q : Type 0} → Decided P → Decided Q → Decided (P × Q)
both (inl p) (inl q) = inl (p, q)
both (inl p) (inr q) = inr (λ h. q h.1)
both (inr p) q = inr (λ h. p h.0)

-- three facts
pub three : {P Q R : Type 0} → Decided P → Decided Q → Decided R → Decided (P × Q × R)
three (inl p) (inl q) (inl r) = inl (p, q, r)
three (inl p) (inl q) (inr r) = inr (λ h. r h.2)
three (inl p) (inr q) r = inr (λ h. q h.1)
three (inr p) q r = inr (λ h. p h.0)

is_below : (m n : ℕ) → (m < n) ⊎ (n ≤ m) → Decided (m < n)
is_below m n (inl h) = inl h
is_below m n (inr h) = inr (λ k. omega arith)

is_at_most : (m n : ℕ) → (n < m) ⊎ (m ≤ n) → Decided (m ≤ n)
is_at_most m n (inl h) = inr (λ k. omega arith)
is_at_most m n (inr h) = inl h

-- one number is below another
pub below : (m n : ℕ) → Decided (m < n)
below m n = is_below m n (cases_lt m n)

-- one number is at most another
pub at_most : (m n : ℕ) → Decided (m ≤ n)
at_most m n = is_at_most m n (cases_lt n m)

-- the device has the line
pub decided_line : (dev : Device) (l : Line) → Decided (HasLine dev l)
decided_line dev (line.Pin row column pin) = three (below row dev.rows) (below column dev.columns) (below pin 8)
decided_line dev (line.Out row column) = both (below row dev.rows) (below column dev.columns)
decided_line dev (line.Long column index) = both (below column dev.columns) (below index (length dev.longs))
decided_line dev (line.Pad pad) = below pad (length dev.pads)

-- the line crosses the channel
pub decided_reach : (dev : Device) (l : Line) (channel : ℕ) → Decided (Reaches dev l channel)
decided_reach dev (line.Pin row column pin) channel = cases_eq channel (pin_channel dev row pin)
decided_reach dev (line.Out row column) channel = three (at_most row (channel + dev.below)) (at_most channel (row + 1 + dev.above)) (at_most channel dev.rows)
decided_reach dev (line.Long column index) channel = both (at_most (long_at dev index).low channel) (at_most channel (long_at dev index).high)
decided_reach dev (line.Pad pad) channel = cases_eq channel (pad_at dev pad).channel

-- the line may be joined to the track there
pub decided_meeting : (dev : Device) (channel : ℕ) (t : Track) (l : Line) → Decided (Meets dev channel t l)
decided_meeting dev channel (track.Signal t) l = below t (length (tracks_of dev channel))
decided_meeting dev channel track.Gnd (line.Pin row column pin) = inl tt
decided_meeting dev channel track.Gnd (line.Out row column) = inr (λ h. h)
decided_meeting dev channel track.Gnd (line.Long column index) = inr (λ h. h)
decided_meeting dev channel track.Gnd (line.Pad pad) = inl tt
decided_meeting dev channel track.Vcc (line.Pin row column pin) = inl tt
decided_meeting dev channel track.Vcc (line.Out row column) = inr (λ h. h)
decided_meeting dev channel track.Vcc (line.Long column index) = inr (λ h. h)
decided_meeting dev channel track.Vcc (line.Pad pad) = inl tt
decided_meeting dev channel track.Clk (line.Pin row column pin) = inl tt
decided_meeting dev channel track.Clk (line.Out row column) = inr (λ h. h)
decided_meeting dev channel track.Clk (line.Long column index) = inr (λ h. h)
decided_meeting dev channel track.Clk (line.Pad pad) = inr (λ h. h)

-- an antifuse may stand there
pub decided_site : (dev : Device) (site : Site) → Decided (IsSite dev site)
decided_site dev (Along channel t index) = three (at_most channel dev.rows) (below t (length (tracks_of dev channel))) (below index (length (breaks_of dev channel t)))
decided_site dev (Cross channel t l) = both (both (decided_line dev l) (decided_reach dev l channel)) (decided_meeting dev channel t l)

-- it holds
abbrev pub holds : {P : Type 0} → Decided P → Bool
holds (inl p) = true
holds (inr q) = false

-- an antifuse may stand there, as a test
abbrev pub is_site : Device → Site → Bool
is_site dev site = holds (decided_site dev site)
