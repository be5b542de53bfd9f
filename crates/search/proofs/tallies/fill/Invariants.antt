-- What the making of the tallies keeps: those of the choices so far are there.
use Rattle.std.proofs.Common.{◌≡◌, ◌+◌, ◌*◌, ◌/◌, ◌^◌, length}
use Rattle.search.specs.Groups.{TalliedBelow}
use Rattle.search.proofs.tallies.fill.Given as goal

abbrev pub invariant-loop-place : goal.invariant-loop-place
invariant-loop-place l = (length l.groups ≡ length l.initial.groups) × TalliedBelow l.ring (2 ^ l.place) l.groups

abbrev pub invariant-loop-x : goal.invariant-loop-x
invariant-loop-x l = (length l.groups ≡ length l.initial.groups) × TalliedBelow l.ring (2 ^ l.place + l.x * 2 ^ (6 * (l.place / 6))) l.groups
