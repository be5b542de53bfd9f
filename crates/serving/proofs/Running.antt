-- A run so far, one line more, and how it ends.
use Rattle.std.proofs.Common.{◌≡◌, ◌∙◌, ◌⊎◌, inl, inr, ℕ, ◌+◌, Bool, true, false, true≢false, List, [], ◌∷◌, ◌++◌, take, length, Option, Some, None, Result, Ok, Err, refl, sym, ap, subst}
use Rattle.std.proofs.lemmas.List.{append-nil, append_assoc, length-append}
use Rattle.std.proofs.lemmas.List.Elements.{All-push, All-nil}
use Rattle.std.proofs.lemmas.Grind.{flat_map-append}
use Rattle.std.proofs.Math.Seq.{take-length, take-append-add}
use Rattle.std.specs.Io.KnownBytes.{Appends, Keeps}
use Rattle.desk.specs.Heard.{Heard}
use Rattle.desk.specs.Kept.{State}
use Rattle.desk.specs.declared.printed.Reply.{Reply}
use Rattle.serving.specs.Lines.{lines_of, Left, NextLine, Whole}
use Rattle.serving.specs.Served.{Session, Turned, TurnCut, NoTurn, ToTheEnd, ToARefusal, Broken, NoneRefused, Served, printed, text_of, is_refused}
use Rattle.serving.specs.Served.HeardAll.{none, next}
use Rattle.serving.specs.declared.serving.Ended.{Ended}
use Rattle.std.specs.Prelude.{IsErr}
use Rattle.serving.proofs.Known.{then_appends, then_keeps, nothing_from_keeps, unchanged}

-- number lines were heard so far, and none was turned away where a run is to end there
pub record Running (strict : Bool) (input rest : Option (List ℕ)) (s t : State) (before after : Option (List ℕ)) (number : ℕ) : Type 0 where
  pub lines : List (List ℕ)
  pub replies : List (Option Reply)
  pub session : Session input rest s t before after lines replies
  pub counted : length lines ≡ number
  pub unrefused : strict ≡ true → NoneRefused replies

left_whole : (input : Option (List ℕ)) → Left input input []
left_whole None = tt
left_whole (Some bs) = refl

left_more : (a b c : Option (List ℕ)) (ls ms : List (List ℕ)) → Left a b ls → Left b c ms → Left a c (ls ++ ms)
left_more None b c ls ms first more = tt
left_more (Some bs) None c ls ms first more = elim first [ ]
left_more (Some bs) (Some cs) None ls ms first more = elim more [ ]
left_more (Some bs) (Some cs) (Some ds) ls ms first more = first ∙ ap (λ l. ls ++ l) more ∙ sym (append_assoc ls ms (lines_of ds))

whole_from_left : (a b : Option (List ℕ)) (ls : List (List ℕ)) → Left a b ls → Whole b [] → Whole a ls
whole_from_left None b ls first end = tt
whole_from_left (Some bs) None ls first end = elim first [ ]
whole_from_left (Some bs) (Some cs) ls first end = first ∙ ap (λ l. ls ++ l) end ∙ append-nil ls

one_more : (replies : List (Option Reply)) (reply : Option Reply) → text_of (replies ++ reply ∷ []) ≡ text_of replies ++ printed reply
one_more replies reply = flat_map-append printed replies (reply ∷ []) ∙ ap (λ l. text_of replies ++ l) (append-nil (printed reply))

module _ {strict : Bool} {input rest : Option (List ℕ)} {s t : State} {before after : Option (List ℕ)} {number : ℕ} where
  pub broken : Running strict input rest s t before after number → (now : Option (List ℕ)) → Keeps after now → Broken input s t before now
  broken r now same =
      record {
        rest = rest;
        lines = r.lines;
        replies = r.replies;
        read = r.session.read;
        heard = r.session.heard;
        k = length (text_of r.replies);
        written = subst (Appends before now) (sym (take-length (text_of r.replies))) (then_keeps _ _ _ _ r.session.written same);
      }

  pub to_the_end : Running strict input rest s t before after number → Whole rest [] → (now : Option (List ℕ)) → Keeps after now → ToTheEnd strict input s t before now
  to_the_end r end now same =
      record {
        lines = r.lines;
        replies = r.replies;
        read = whole_from_left _ _ _ r.session.read end;
        heard = r.session.heard;
        written = then_keeps _ _ _ _ r.session.written same;
        unrefused = r.unrefused;
      }

  module _ (r : Running strict input rest s t before after number) (line : List ℕ) (left : Option (List ℕ)) (read : Left rest left (line ∷ [])) where
    pub heard_more : {u : State} {now : Option (List ℕ)} {refused : Bool} → (turn : Turned line number t u after now refused) → Session input left s u before now (r.lines ++ line ∷ []) (r.replies ++ turn.reply ∷ [])
    heard_more {u} {now} turn =
        record {
          read = left_more _ _ _ _ _ r.session.read read;
          heard = next r.session.heard (subst (λ n. Heard line n t u (Ok turn.reply)) (sym r.counted) turn.heard);
          written = subst (Appends before now) (sym (one_more r.replies turn.reply)) (then_appends _ _ _ _ _ r.session.written turn.written);
        }

    pub goes_on : {u : State} {now : Option (List ℕ)} {refused : Bool} → Turned line number t u after now refused → (strict ≡ true → refused ≡ false) → Running strict input left s u before now (number + 1)
    goes_on turn on =
        record {
          lines = r.lines ++ line ∷ [];
          replies = r.replies ++ turn.reply ∷ [];
          session = heard_more turn;
          counted = length-append r.lines (line ∷ []) ∙ ap (λ n. n + 1) r.counted;
          unrefused = λ e. All-push (λ reply. is_refused reply ≡ false) r.replies turn.reply (r.unrefused e) (sym turn.refusal ∙ on e);
        }

    pub to_a_refusal : {u : State} {mid : Option (List ℕ)} {refused : Bool} → Turned line number t u after mid refused → refused ≡ true → strict ≡ true → (now : Option (List ℕ)) → Keeps mid now → ToARefusal strict input left s u before now
    to_a_refusal turn is asked now same = let heard = heard_more turn in
        record {
          lines = r.lines ++ line ∷ [];
          replies = r.replies;
          last = turn.reply;
          session = record { read = heard.read; heard = heard.heard; written = then_keeps _ _ _ _ heard.written same };
          asked = asked;
          unrefused = r.unrefused asked;
          refused = sym turn.refusal ∙ is;
        }

    pub broken_after : {u : State} {mid : Option (List ℕ)} {refused : Bool} → Turned line number t u after mid refused → (now : Option (List ℕ)) → Keeps mid now → Broken input s u before now
    broken_after turn now same = let heard = heard_more turn in
        record {
          rest = left;
          lines = r.lines ++ line ∷ [];
          replies = r.replies ++ turn.reply ∷ [];
          read = heard.read;
          heard = heard.heard;
          k = length (text_of (r.replies ++ turn.reply ∷ []));
          written = subst (Appends before now) (sym (take-length (text_of (r.replies ++ turn.reply ∷ [])))) (then_keeps _ _ _ _ heard.written same);
        }

    pub broken_within : {u : State} {now : Option (List ℕ)} → TurnCut line number t u after now ⊎ NoTurn t u after now → Broken input s u before now
    broken_within {u} {now} (inl turn) =
        record {
          rest = left;
          lines = r.lines ++ line ∷ [];
          replies = r.replies ++ turn.reply ∷ [];
          read = left_more _ _ _ _ _ r.session.read read;
          heard = next r.session.heard (subst (λ n. Heard line n t u (Ok turn.reply)) (sym r.counted) turn.heard);
          k = length (text_of r.replies) + turn.k;
          written = subst (Appends before now)
              (sym (ap (λ l. take (length (text_of r.replies) + turn.k) l) (one_more r.replies turn.reply) ∙ take-append-add (text_of r.replies) (printed turn.reply) turn.k))
              (then_appends _ _ _ _ _ r.session.written turn.written);
        }
    broken_within {u} {now} (inr idle) = subst (λ v. Broken input s v before now) (sym idle.same) (broken r now (subst (Keeps after) (sym idle.unwritten) (unchanged after)))

pub begins : (strict : Bool) (input : Option (List ℕ)) (s : State) (before : Option (List ℕ)) → Running strict input input s s before before 0
begins strict input s before =
    record {
      lines = [];
      replies = [];
      session = record { read = left_whole input; heard = none; written = nothing_from_keeps before before (unchanged before) };
      counted = refl;
      unrefused = λ e. All-nil (λ reply. is_refused reply ≡ false);
    }

pub served_broken : {E : Type 0} (strict : Bool) (input rest : Option (List ℕ)) (s t : State) (before after : Option (List ℕ)) (r : Result Ended E) → IsErr r → Broken input s t before after → Served strict input rest s t before after r
served_broken strict input rest s t before after (Ok x) failed b = absurd (true≢false (sym failed))
served_broken strict input rest s t before after (Err e) failed b = b

pub took : (input rest : Option (List ℕ)) (line given : List ℕ) (b : Bool) → NextLine {E = Unit {0}} input rest line (Ok b) → b ≡ true → given ≡ line → Left input rest (given ∷ [])
took input rest line given b read is same = subst (λ l. Left input rest (l ∷ [])) (sym same) (subst (λ b. NextLine {E = Unit {0}} input rest line (Ok b)) is read)
