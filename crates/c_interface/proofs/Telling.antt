-- A season that was turned away is told by its refusal's number.
use Rattle.std.proofs.Common.{◌≡◌, ℕ, List, Some, None, Err, Option, refl, ap, ◌∙◌}
use Rattle.choices.specs.Stand.{Stand}
use Rattle.choices.specs.declared.rule.Rule.{Rule}
use Rattle.answers.specs.Refusals.{refusal_number}
use Rattle.answers.specs.declared.refusal.Refusal.{Refusal}
use Rattle.seasons.specs.Season.{Seasoned}
use Rattle.c_interface.specs.InNumbers.{SeasonTold}

pub told_refused :
    (o : Option Refusal) (r : Rule) (hs : List ℕ) (n : ℕ) (s t : Stand) (f : Refusal) (x : ℕ) →
    Seasoned o r hs n s (Err f) t → x ≡ refusal_number f →
    SeasonTold o r hs n s (record { refusal = x; bags = 0; weight = 0; given_away = 0 }) t
told_refused None r hs n s t f x h e = absurd h
told_refused (Some g) r hs n s t f x h e = (e ∙ ap refusal_number h.0, refl, refl, refl, h.1)
