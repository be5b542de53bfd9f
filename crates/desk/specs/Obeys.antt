-- What each command does to what is kept, and what is answered. Assumes nothing: these are definitions.
--   Rest           what was neither asked for nor lent stays as it was
--   BagMade        a bag was asked for
--   SeasonPlayed   a season was asked for
--   HandfulFell    a handful fell
--   MixMade, MixPlayed   a bag, or a season of bags, with so much of each kind was asked for
--   ObeysMix       the same, by whether a number stands behind the word
--   ObeysWord      a word is obeyed with its numbers, at a line
--   Obeys          a command is obeyed
use Rattle.std.specs.Prelude.{◌≡◌, ℕ, List, [], ◌∷◌, Some, None, Option, slice_index}
use Rattle.choices.specs.Stand.{stand}
use Rattle.seasons.specs.Fall.{fall_refusal}
use Rattle.text.specs.Held.{numbers_in}
use Rattle.text.specs.declared.commands.Command.{Command}
use Rattle.text.specs.declared.words.Word.{Word}
use Rattle.text.specs.declared.words.Word.TheVariants.{Rule, Pans, Ages, Handfuls, Bag, Fall, Bags, Kinds, Mix}
use Rattle.desk.specs.declared.printed.Reply.{Reply}
use Rattle.desk.specs.Replies.{Bagged, PlayedSo, FellSo, Mixed, MixPlayedSo}
use Rattle.desk.specs.Kept.{State}

pub record Rest (s t : State) : Type 0 where
  pub rule : t.rule ≡ s.rule
  pub handfuls : t.ring.handfuls ≡ s.ring.handfuls
  pub kinds : t.ring.kinds ≡ s.ring.kinds
  pub entries : t.entries ≡ s.entries

pub record BagMade (s t : State) (line : ℕ) (r : Option Reply) : Type 0 where
  pub reply : Reply
  pub said : r ≡ Some reply
  pub bagged : Bagged s.rule s.ring.stand s.entries line reply t.ring.stand
  pub rest : Rest s t

pub record SeasonPlayed (s t : State) (bags line : ℕ) (r : Option Reply) : Type 0 where
  pub reply : Reply
  pub said : r ≡ Some reply
  pub played : PlayedSo s.rule s.ring.stand s.ring.handfuls bags line reply t.ring.stand
  pub rest : Rest s t

pub record HandfulFell (s t : State) (pan grams line : ℕ) (r : Option Reply) : Type 0 where
  pub fell : FellSo (fall_refusal s.ring.stand.weights pan grams) s.ring.stand.weights pan grams line r t.ring.stand.weights
  pub ages : t.ring.stand.ages ≡ s.ring.stand.ages
  pub rest : Rest s t

pub record MixMade (s t : State) (line : ℕ) (r : Option Reply) : Type 0 where
  pub reply : Reply
  pub said : r ≡ Some reply
  pub mixed : Mixed s.rule s.ring.stand s.ring.kinds line reply t.ring.stand
  pub rest : Rest s t

pub record MixPlayed (s t : State) (bags line : ℕ) (r : Option Reply) : Type 0 where
  pub reply : Reply
  pub said : r ≡ Some reply
  pub played : MixPlayedSo s.rule s.ring.stand s.ring.kinds s.ring.handfuls bags line reply t.ring.stand
  pub rest : Rest s t

-- no number behind the word, or one
abbrev pub ObeysMix : (numbers : List ℕ) → (line : ℕ) → (before after : State) → Option Reply → Type 0
ObeysMix [] l s t r = MixMade s t l r
ObeysMix (n ∷ ns) l s t r = MixPlayed s t n l r

abbrev pub ObeysWord : Word → (numbers : List ℕ) → (line : ℕ) → (before after : State) → Option Reply → Type 0
ObeysWord Rule ns l s t r = (r ≡ None) × (t ≡ record s { rule = ns })
ObeysWord Pans ns l s t r = (r ≡ None) × (t ≡ record s { ring = record s.ring { stand = stand ns s.ring.stand.ages } })
ObeysWord Ages ns l s t r = (r ≡ None) × (t ≡ record s { ring = record s.ring { stand = stand s.ring.stand.weights ns } })
ObeysWord Handfuls ns l s t r = (r ≡ None) × (t ≡ record s { ring = record s.ring { handfuls = ns } })
ObeysWord Bag ns l s t r = BagMade s t l r
ObeysWord Fall ns l s t r = HandfulFell s t (slice_index ns 0) (slice_index ns 1) l r
ObeysWord Bags ns l s t r = SeasonPlayed s t (slice_index ns 0) l r
ObeysWord Kinds ns l s t r = (r ≡ None) × (t ≡ record s { ring = record s.ring { kinds = ns } })
ObeysWord Mix ns l s t r = ObeysMix ns l s t r

abbrev pub Obeys : Command → (line : ℕ) → (before after : State) → Option Reply → Type 0
Obeys c l s t r = ObeysWord c.word (numbers_in c.numbers) l s t r
