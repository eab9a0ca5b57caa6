use Rattle.std.proofs.Common.{◌∙◌, sym, string_bytes}
use Rattle.home_names.specs.Names.{is_account_name}
use Rattle.std.proofs.lemmas.List.Folds.{list_all-map}
use Rattle.serve_words.proofs.accounts.are_account_names.Goals as goal

pub returns : goal.returns
returns c = record {
  value = c.each_is_account_name.ensures ∙ sym (list_all-map is_account_name string_bytes c.args.names.now);
}
