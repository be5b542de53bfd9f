-- What is printed for each answer. Assumes nothing: these are definitions.
--   pans_below     the pans below k that a number opens, the lowest first: bit i is pan i
--   open_text, refused_text, season_text   what is printed of a bag, of a refusal and of a season
--   said           what is printed of an answer
--   refused_at     what is turned away at a line
--   bag_reply      the answer where a bag was asked for at a line: the bag, that no choice fits, or why nothing was taken
--   season_reply   the answer where a season was asked for at a line
use Rattle.std.specs.Prelude.{ℕ, zero, suc, ◌/◌, ◌%◌, ◌^◌, Bool, List, [], ◌∷◌, ◌++◌, codes, if◌then◌else◌, ◌==◌, Some, None, Ok, Err, Option, Result}
use Rattle.answers.specs.Refusals.{refusal_number, refusal_place}
use Rattle.answers.specs.declared.played.Played.{Played}
use Rattle.answers.specs.declared.refusal.Refusal.{Refusal}
use Rattle.order.specs.declared.bag.Bag.{Bag}
use Rattle.desk.specs.declared.printed.Reply.{Reply}
use Rattle.desk.specs.declared.printed.Reply.TheVariants.{Open, None as NoChoice, Refused, Season}
use Rattle.text.specs.Written.{numeral, spaced}

unfoldable pub pans_below : ℕ → ℕ → List ℕ
pans_below zero pans = []
pans_below (suc k) pans = pans_below k pans ++ (if pans / 2 ^ k % 2 == 1 then k ∷ [] else [])

abbrev pub open_text : ℕ → ℕ → List ℕ
open_text pans weight = codes "open" ++ (spaced (pans_below 32 pans) ++ (codes ": " ++ numeral weight))

abbrev pub refused_text : ℕ → ℕ → List ℕ
refused_text number place = codes "refused " ++ (numeral number ++ (codes " at " ++ numeral place))

abbrev pub season_text : ℕ → ℕ → ℕ → Bool → List ℕ
season_text bags weight given early =
    codes "bags " ++ (numeral bags ++ (codes ": " ++ (numeral weight ++ (codes ", " ++ (numeral given ++ (codes " given away" ++ (if early then codes ", then none" else [])))))))

abbrev pub said : Reply → List ℕ
said (Open bag) = open_text bag.pans bag.weight
said NoChoice = codes "none"
said (Refused f) = refused_text (refusal_number f.refusal) (refusal_place f.refusal f.line)
said (Season p) = season_text p.bags p.weight p.given_away p.ended_early

abbrev pub refused_at : (line : ℕ) → Refusal → Reply
refused_at l f = Refused (record { refusal = f; line = l })

abbrev pub bag_reply : (line : ℕ) → Result (Option Bag) Refusal → Reply
bag_reply l (Ok (Some bag)) = Open bag
bag_reply l (Ok None) = NoChoice
bag_reply l (Err f) = refused_at l f

abbrev pub season_reply : (line : ℕ) → Result Played Refusal → Reply
season_reply l (Ok p) = Season p
season_reply l (Err f) = refused_at l f
