-- What is asked is within all bounds.
use Rattle.std.proofs.Common.{◌≡◌, Ok, map, subst}
use Rattle.std.specs.Prelude.{string_bytes, Result, MatchResult}
use Rattle.serve_words.specs.Limits.{seen_of}
use Rattle.serve_run.proofs.command.do_asked.Goals as goal

pub serve_asked-requires-clause-bounded : goal.serve_asked-requires-clause-bounded
serve_asked-requires-clause-bounded g c κs within =
    c.what_is_asked_is_bounded.ensures (map string_bytes c.args.words.now) (seen_of c.in-Ok.options) c.in-Ok.ensures.exact
