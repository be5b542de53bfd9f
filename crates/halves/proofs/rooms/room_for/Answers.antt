-- What is left of the proof of how many entries both halves take.
use Rattle.std.proofs.Common.{◌≡◌, ℕ, ◌^◌, ◌≤◌, ap, ◌∙◌, arith, pow_mono}
use Rattle.halves.specs.Entries.{half_of}
use Rattle.halves.proofs.rooms.room_for.Goals as goal

pub returns : goal.returns
returns c =
    let n = c.args.pans in
    let e : c.entries.result ≡ 2 ^ half_of n = c.entries.ensures ∙ ap (λ (m : ℕ). 2 ^ m) c.half_of.ensures in
    let f : 2 ^ half_of n ≤ 2 ^ 11 = pow_mono {j = 11} (omega (arith, c.requires)) in
    record { value = omega (arith, e); enough = omega (arith, e, f) }
