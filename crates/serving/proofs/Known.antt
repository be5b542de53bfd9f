-- What is known of writers and readers, put together.
use Rattle.std.proofs.Common.{◌≡◌, ◌∙◌, ℕ, ◌+◌, ◌-◌, ◌≤◌, arith, List, [], ◌++◌, take, drop, length, Option, Some, None, Result, Ok, Err, refl, sym, ap, subst}
use Rattle.std.proofs.lemmas.List.{append-nil, append_assoc, length-drop, take_all}
use Rattle.std.proofs.Math.Seq.{take-add, take-length}
use Rattle.std.specs.Io.KnownBytes.{Appends, Keeps}
use Rattle.serving.specs.Written.{Written}

pub then_appends : (a b c : Option (List ℕ)) (xs ys : List ℕ) → Appends a b xs → Appends b c ys → Appends a c (xs ++ ys)
then_appends None b c xs ys first more = tt
then_appends (Some old) None c xs ys first more = elim first [ ]
then_appends (Some old) (Some mid) None xs ys first more = elim more [ ]
then_appends (Some old) (Some mid) (Some new) xs ys first more = more ∙ ap (λ l. l ++ ys) first ∙ append_assoc old xs ys

pub then_keeps : (a b c : Option (List ℕ)) (xs : List ℕ) → Appends a b xs → Keeps b c → Appends a c xs
then_keeps None b c xs first more = tt
then_keeps (Some old) None c xs first more = elim first [ ]
then_keeps (Some old) (Some mid) None xs first more = elim more [ ]
then_keeps (Some old) (Some mid) (Some new) xs first more = more ∙ first

pub keeps_from_nothing : (a b : Option (List ℕ)) → Appends a b [] → Keeps a b
keeps_from_nothing None b none = tt
keeps_from_nothing (Some old) None none = elim none [ ]
keeps_from_nothing (Some old) (Some new) none = none ∙ append-nil old

pub nothing_from_keeps : (a b : Option (List ℕ)) → Keeps a b → Appends a b []
nothing_from_keeps None b same = tt
nothing_from_keeps (Some old) None same = elim same [ ]
nothing_from_keeps (Some old) (Some new) same = same ∙ sym (append-nil old)

-- the first k bytes of a text, and then n more
pub then_more : (a b c : Option (List ℕ)) (k n : ℕ) (text : List ℕ) → Appends a b (take k text) → Appends b c (take n (drop k text)) → Appends a c (take (k + n) text)
then_more a b c k n text first more = subst (Appends a c) (sym (take-add k n text)) (then_appends a b c _ _ first more)

-- the same of a text that is cut off behind its first k bytes
pub put_more : (a b c : Option (List ℕ)) (k n : ℕ) (text : List ℕ) → (k ≤ length text) × Appends a b (take k text) → (n ≤ length (take (length text - k) (drop k text))) × Appends b c (take n (take (length text - k) (drop k text))) → (k + n ≤ length text) × Appends a c (take (k + n) text)
put_more a b c k n text first more =
    let rest_long : length (drop k text) ≡ length text - k = length-drop k text in
    let whole : take (length text - k) (drop k text) ≡ drop k text = take_all _ _ (omega (arith, rest_long)) in
    let some : n ≤ length (drop k text) = subst (λ l. n ≤ length l) whole more.0 in
    (omega (arith, first.0, some, rest_long), then_more a b c k n text first.1 (subst (λ l. Appends b c (take n l)) whole more.1))

-- a whole text was written, and nothing more, whether the rest went well or not
pub all_written : {X E : Type 0} (a b c : Option (List ℕ)) (text : List ℕ) (r : Result X E) → Appends a b text → Keeps b c → Written a c text r
all_written a b c text (Ok x) first same = then_keeps a b c text first same
all_written a b c text (Err e) first same = (length text, subst (Appends a c) (sym (take-length text)) (then_keeps a b c text first same))

pub unchanged : (a : Option (List ℕ)) → Keeps a a
unchanged None = tt
unchanged (Some xs) = refl
