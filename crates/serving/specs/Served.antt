-- What a run over its input answers. Assumes nothing: these are definitions.
--   HeardAll    lines were heard one after another, numbered from 0, each answered or passed over
--   printed     what is written of the answer to a line: it and a line feed, or nothing
--   text_of     what is written of the answers to all lines
--   is_refused  a line that was turned away
--   Session     the input began with these lines; they were heard, and what is written of the answers was written out
--   ToTheEnd, ToARefusal, Broken   how a run ends: at the input's end, at the first line turned away, or at a failure
--   Served      all lines were heard; or those up to the first that was turned away, where a run is to end there; or what failed
--               is answered, and the lines so far were heard
use Rattle.std.specs.Prelude.{◌≡◌, ◌⊎◌, ℕ, Bool, true, false, List, [], ◌∷◌, ◌++◌, length, take, All, Some, None, Ok, Err, Option, Result, flat_map}
use Rattle.std.specs.Io.KnownBytes.{Appends}
use Rattle.desk.specs.Heard.{Heard}
use Rattle.desk.specs.Kept.{State}
use Rattle.desk.specs.Printed.{said}
use Rattle.desk.specs.declared.printed.Reply.{Reply}
use Rattle.desk.specs.declared.printed.Reply.TheVariants.{Refused}
use Rattle.serving.specs.declared.serving.Ended.{Ended}
use Rattle.serving.specs.declared.serving.Ended.TheVariants.{AtEnd, AtRefusal}
use Rattle.serving.specs.Lines.{Left, Whole}

pub data HeardAll (s : State) : (lines : List (List ℕ)) → List (Option Reply) → State → Type 0 where
  none : HeardAll s [] [] s
  next :
      {line : List ℕ} {lines : List (List ℕ)} {reply : Option Reply} {replies : List (Option Reply)} {t u : State} →
      HeardAll s lines replies t → Heard line (length lines) t u (Ok reply) → HeardAll s (lines ++ line ∷ []) (replies ++ reply ∷ []) u

abbrev pub printed : Option Reply → List ℕ
printed None = []
printed (Some reply) = said reply ++ 10 ∷ []

abbrev pub text_of : List (Option Reply) → List ℕ
text_of replies = flat_map printed replies

abbrev pub is_refused : Option Reply → Bool
is_refused (Some (Refused f)) = true
is_refused other = false

-- a line was heard, or memory failed and nothing changed
abbrev pub HeardSo : {E : Type 0} → List ℕ → (number : ℕ) → (s t : State) → Result (Option Reply) E → Type 0
HeardSo line number s t (Ok reply) = Heard line number s t (Ok reply)
HeardSo line number s t (Err e) = t ≡ s

-- a line was heard and its answer, or after an error the first k bytes of it, was written out; or nothing happened
pub record Turned (line : List ℕ) (number : ℕ) (s t : State) (before after : Option (List ℕ)) (refused : Bool) : Type 0 where
  pub reply : Option Reply
  pub heard : Heard line number s t (Ok reply)
  pub written : Appends before after (printed reply)
  pub refusal : refused ≡ is_refused reply

pub record TurnCut (line : List ℕ) (number : ℕ) (s t : State) (before after : Option (List ℕ)) : Type 0 where
  pub reply : Option Reply
  pub heard : Heard line number s t (Ok reply)
  pub k : ℕ
  pub written : Appends before after (take k (printed reply))

pub record NoTurn (s t : State) (before after : Option (List ℕ)) : Type 0 where
  pub same : t ≡ s
  pub unwritten : after ≡ before

abbrev pub Turn : {E : Type 0} → List ℕ → (number : ℕ) → (s t : State) → (before after : Option (List ℕ)) → Result Bool E → Type 0
Turn line number s t before after (Ok refused) = Turned line number s t before after refused
Turn line number s t before after (Err e) = TurnCut line number s t before after ⊎ NoTurn s t before after

pub record Session (input rest : Option (List ℕ)) (s t : State) (before after : Option (List ℕ)) (lines : List (List ℕ)) (replies : List (Option Reply)) : Type 0 where
  pub read : Left input rest lines
  pub heard : HeardAll s lines replies t
  pub written : Appends before after (text_of replies)

abbrev pub NoneRefused : List (Option Reply) → Type 0
NoneRefused replies = All (λ reply. is_refused reply ≡ false) replies

pub record ToTheEnd (strict : Bool) (input : Option (List ℕ)) (s t : State) (before after : Option (List ℕ)) : Type 0 where
  pub lines : List (List ℕ)
  pub replies : List (Option Reply)
  pub read : Whole input lines
  pub heard : HeardAll s lines replies t
  pub written : Appends before after (text_of replies)
  pub unrefused : strict ≡ true → NoneRefused replies

pub record ToARefusal (strict : Bool) (input rest : Option (List ℕ)) (s t : State) (before after : Option (List ℕ)) : Type 0 where
  pub lines : List (List ℕ)
  pub replies : List (Option Reply)
  pub last : Option Reply
  pub session : Session input rest s t before after lines (replies ++ last ∷ [])
  pub asked : strict ≡ true
  pub unrefused : NoneRefused replies
  pub refused : is_refused last ≡ true

-- the lines so far were heard, and what is written of the answers, or the first k bytes of it, was written out
pub record Broken (input : Option (List ℕ)) (s t : State) (before after : Option (List ℕ)) : Type 0 where
  pub rest : Option (List ℕ)
  pub lines : List (List ℕ)
  pub replies : List (Option Reply)
  pub read : Left input rest lines
  pub heard : HeardAll s lines replies t
  pub k : ℕ
  pub written : Appends before after (take k (text_of replies))

abbrev pub Served : {E : Type 0} → (strict : Bool) → (input rest : Option (List ℕ)) → (s t : State) → (before after : Option (List ℕ)) → Result Ended E → Type 0
Served strict input rest s t before after (Ok AtEnd) = ToTheEnd strict input s t before after
Served strict input rest s t before after (Ok AtRefusal) = ToARefusal strict input rest s t before after
Served strict input rest s t before after (Err e) = Broken input s t before after
