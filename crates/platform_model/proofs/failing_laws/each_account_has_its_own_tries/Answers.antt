use Rattle.std.proofs.Common.{refl, subst}
use Rattle.platform_model.specs.Views.{View, era_of}
use Rattle.platform_model.specs.Runs.{Folds, at_rest}
use Rattle.platform_model.proofs.RunLemmas.{tried_stands, tried_folds, rest_stands}
use Rattle.platform_model.proofs.failing_laws.each_account_has_its_own_tries.Goals as goal

pub returns-clause-stands : goal.returns-clause-stands
returns-clause-stands c = λ moment s tries end late h tried.
    tried_stands moment late (era_of s) (at_rest s) tries end (rest_stands moment s h) refl tried

pub returns-clause-folds : goal.returns-clause-folds
returns-clause-folds c = λ moment s tries end account view late h tried sees.
    let found =
    tried_folds moment late (era_of s) (at_rest s) tries end account view (rest_stands moment s h) refl tried sees in
    subst (λ (u : View). Folds (era_of s) account u tries view) found.1 found.2
