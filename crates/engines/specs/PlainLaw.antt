-- That the plain kind of bag is lawful: a proof, which the kind names.
use Rattle.std.specs.Prelude.{refl}
use Rattle.choices.specs.Stand.{by_rule}
use Rattle.choices.proofs.Choices.{fits_allowed, fits_opens}
use Rattle.engines.specs.Kinds.{Lawful}
use Rattle.engines.specs.Plain.{age_of, least_of, top_of, same_rule, rule_ready}

pub rule_lawful : Lawful by_rule age_of least_of top_of same_rule rule_ready
rule_lawful =
    record {
      sound = fits_allowed;
      opens = λ r s cs ready h. fits_opens r s cs ready.some h;
      old = λ r n m ready. ready.age;
      one = λ r n m ready. ready;
      goes_on = λ r s cs m ready h. ready;
      same_age = λ r w. refl;
      same_least = λ r w. refl;
      same_top = λ r w. refl;
    }
