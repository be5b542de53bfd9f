-- One more pan: shut and opened in one merge, or just one of them.
use Rattle.std.proofs.Common.{◌≡◌, ℕ, ◌+◌, ◌<◌, true, false, List, get_or, sym, inl, inr, ⊎_elim, arith}
use Rattle.std.proofs.lemmas.Bool.{cases_lt, both_ways}
use Rattle.halves_growth.specs.Entries.{Rises, Below, Merged, Grown, Opening}
use Rattle.halves_places.specs.declared.way.Way.{Way}

pub opening_some : (to : ℕ) (v : Way) (gain : ℕ) (es : List ℕ) (n m : ℕ) → v.opens ≡ true → Below es n gain to m → Opening to v gain es n m
opening_some to v gain es n m o h =
    record {
      few = h.few;
      opens = λ _. o;
      all = λ _ p l b. ⊎_elim (λ k. k) (λ k. absurd (omega (arith, h.high p k l))) (cases_lt p m);
    }

pub opening_none : (to : ℕ) (v : Way) (gain : ℕ) (es : List ℕ) (n : ℕ) → v.opens ≡ false → Opening to v gain es n 0
opening_none to v gain es n o = record { few = omega arith; opens = λ k. absurd (omega arith); all = λ e p l b. absurd (both_ways _ o e) }

pub grown_both :
    (to : ℕ) (v : Way) (gain : ℕ) (old es : List ℕ) (n m : ℕ) → Opening to v gain old n m → v.young ≡ true →
    Merged old es n m gain → Grown to v gain old es n (n + m)
grown_both to v gain old es n m o s h =
    record {
      few = omega (arith, o.few);
      rises = h.rises;
      keeps = λ _ p l. h.keeps p l;
      adds = λ e p l b. h.adds p (o.all e p l b);
      only = λ q l. ⊎_elim (λ k. inl (s, k)) (λ k. inr (o.opens (omega (arith, k.1)), (k.0, omega (arith, k.1, o.few), k.2))) (h.only q l);
    }

pub grown_opened :
    (to : ℕ) (v : Way) (gain : ℕ) (old es : List ℕ) (n m : ℕ) → Opening to v gain old n m → v.young ≡ false → Rises old n →
    ((p : ℕ) → p < m → get_or es p 0 ≡ get_or old p 0 + gain) → Grown to v gain old es n m
grown_opened to v gain old es n m o s rises h =
    record {
      few = omega (arith, o.few);
      rises = λ p q a l. omega (arith, h p (omega arith), h q l, rises p q a (omega (arith, o.few)));
      keeps = λ e. absurd (both_ways _ s e);
      adds = λ e p l b. (p, o.all e p l b, h p (o.all e p l b));
      only = λ q l. inr (o.opens (omega arith), (q, omega (arith, o.few), sym (h q l)));
    }
