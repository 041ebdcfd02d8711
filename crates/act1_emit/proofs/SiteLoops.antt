-- Steps of the loops along a track and over the connections of a channel.
use Rattle.std.proofs.Common.{ℕ, suc, ◌≡◌, ◌+◌, ◌-◌, ◌<◌, List, [], ◌∷◌, ◌++◌, length, map, drop, get_or, sym, ap, ◌∙◌, arith}
use Rattle.std.proofs.lemmas.List.{append_assoc, drop_more}
use Rattle.act1_device.specs.declared.device.Device.{Device}
use Rattle.act1_device.specs.declared.device.Site.{Site}
use Rattle.act1_device.specs.declared.device.Site.TheVariants.{Along}
use Rattle.act1_base.specs.Lists.{numbers}
use Rattle.act1_groute.specs.declared.wiring.Wiring.{Wiring}
use Rattle.act1_emit.specs.SiteSteps.{along_sites, connection_sites, channel_sites}

-- what was to come is the next part and what is to come after it
step : (sites more whole part rest next : List Site) → more ≡ sites ++ part → next ≡ part ++ rest → sites ++ next ≡ whole → more ++ rest ≡ whole
step sites more whole part rest next e split h = ap (λ (xs : List Site). xs ++ rest) e ∙ append_assoc sites part rest ∙ ap (λ (xs : List Site). sites ++ xs) (sym split) ∙ h

pub along_step : (sites more whole : List Site) (channel t i last : ℕ) → more ≡ sites ++ Along channel t i ∷ [] → i < last → sites ++ along_sites channel t i last ≡ whole → more ++ along_sites channel t (i + 1) last ≡ whole
along_step sites more whole channel t i last e low h =
    let count : last - i ≡ suc (last - (i + 1)) = omega arith in
    step sites more whole (Along channel t i ∷ []) (along_sites channel t (i + 1) last) (along_sites channel t i last) e (ap (λ n. map (λ index. Along channel t index) (numbers i n)) count) h

pub channel_step : (dev : Device) (channel : ℕ) (ws : List Wiring) (ts : List ℕ) (i : ℕ) (sites more whole : List Site) (w : Wiring) (t d : ℕ) → i < length ws → length ts ≡ length ws → w ≡ get_or ws i w → t ≡ get_or ts i d
    → more ≡ sites ++ connection_sites dev channel w t → sites ++ channel_sites dev channel (drop i ws) (drop i ts) ≡ whole → more ++ channel_sites dev channel (drop (i + 1) ws) (drop (i + 1) ts) ≡ whole
channel_step dev channel ws ts i sites more whole w t d low same wiring track e h =
    let within : i < length ts = omega (arith, same) in
    let rest = channel_sites dev channel (drop (i + 1) ws) (drop (i + 1) ts) in
    let split = ap (λ (l : List Wiring). channel_sites dev channel l (drop i ts)) (drop_more ws i w low)
    ∙ ap (λ (l : List ℕ). channel_sites dev channel (get_or ws i w ∷ drop (i + 1) ws) l) (drop_more ts i d within)
    ∙ ap (λ (v : Wiring). connection_sites dev channel v (get_or ts i d) ++ rest) (sym wiring)
    ∙ ap (λ (n : ℕ). connection_sites dev channel w n ++ rest) (sym track) in
    step sites more whole (connection_sites dev channel w t) rest (channel_sites dev channel (drop i ws) (drop i ts)) e split h
