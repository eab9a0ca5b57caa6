-- How contents are told apart: as tuples of their parts.
use Rattle.std.specs.Prelude.{ℕ, List, Option, refl}
use Rattle.std.specs.Coded.{Coded, code_by, coded×, coded_ℕ, coded_list, coded_option}
use Rattle.std.specs.FinMap.{code}
use Rattle.pw_types.specs.declared.stamp.Stamp.{Stamp}
use Rattle.share_api.specs.Contents.{Contents, Records, Leaves}
use Rattle.share_api.specs.declared.leaf.Leaf.{Leaf}

abbrev pub coded_bytes : Coded (List ℕ)
coded_bytes = coded_list coded_ℕ

abbrev pub coded_stamp : Coded Stamp
coded_stamp =
    code_by (ℕ × ℕ) (coded× coded_ℕ coded_ℕ) (λ s. (s.boot, s.at)) (λ p. record { boot = p.0; at = p.1 }) (λ _. refl)

abbrev pub coded_leaf : Coded Leaf
coded_leaf =
    code_by (List ℕ × (List ℕ × (List ℕ × (List (ℕ × ℕ) × (ℕ × Stamp)))))
    (coded× coded_bytes
    (coded× coded_bytes
    (coded× coded_bytes (coded× (coded_list (coded× coded_ℕ coded_ℕ)) (coded× coded_ℕ coded_stamp)))))
    (λ l. (l.les, (l.hes, (l.reset, (l.schedule, (l.wrong, l.last))))))
    (λ p. record {
      les = p.0;
      hes = p.1.0;
      reset = p.1.1.0;
      schedule = p.1.1.1.0;
      wrong = p.1.1.1.1.0;
      last = p.1.1.1.1.1;
    })
    (λ _. refl)

abbrev pub coded_contents : Coded Contents
coded_contents =
    code_by (Records × (Leaves × Option ℕ))
    (coded× (code coded_bytes coded_bytes) (coded× (code coded_ℕ coded_leaf) (coded_option coded_ℕ)))
    (λ c. (c.records, (c.leaves, c.doubt)))
    (λ p. record { records = p.0; leaves = p.1.0; doubt = p.1.1 }) (λ _. refl)
