use Rattle.std.proofs.Common.{rules, ap, ap₂, codes, true, Bool, ◌≡◌, ◌∙◌}
use Rattle.std.proofs.lemmas.Result.{IfOk-weaker}
use Rattle.clap.specs.Words.{App, Shape, Rule, rule_of, with_rule, with_subcommand}
use Rattle.clap.specs.declared.builder.arg.Arg.{Arg}
use Rattle.sdb_words.specs.Program.{required}
use Rattle.sdb_words.proofs.asked.commands.Goals as goal

abbrev top : App → Shape
top a = a.top

abbrev must : Rule → Rule
must r = record r { required = true }

abbrev global : Arg → Bool
global a = a.global

pub returns : goal.returns
returns c =
    let size_is : rule_of c.required-size.result ≡ required (codes "N") = ap rule_of c.required-size.ensures ∙ ap must c.new.ensures.rule in
    let port_is : rule_of c.required-port.result ≡ required (codes "PORT") = ap rule_of c.required-port.ensures ∙ ap must c.new-2.ensures.rule in
    let turns_is : rule_of c.required-turns.result ≡ required (codes "TURNS") = ap rule_of c.required-turns.ensures ∙ ap must c.new-3.ensures.rule in
    let size_local = ap global c.required-size.ensures ∙ c.new.ensures.optional.1 in
    let port_local = ap global c.required-port.ensures ∙ c.new-2.ensures.optional.1 in
    let turns_local = ap global c.required-turns.ensures ∙ c.new-3.ensures.optional.1 in
    let serve_is = c.in_ok-serve.ensures.shape turns_local
    ∙ ap₂ with_rule (c.in_ok-arg.ensures.shape port_local ∙ ap₂ with_rule c.new-4.ensures.app port_is) turns_is in
    let bench_is = c.in_ok-bench.ensures.shape size_local ∙ ap₂ with_rule c.new-5.ensures.app size_is in
    let bare_is = c.in_ok-subcommand.ensures.shape (search rules) ∙ ap₂ with_subcommand c.new-6.ensures.app (ap top c.new-7.ensures.app) in
    let replay_is = c.in_ok-subcommand-2.ensures.shape (search rules) ∙ ap₂ with_subcommand bare_is (ap top c.new-8.ensures.app) in
    let served_is = c.in_ok-subcommand-3.ensures.shape (search rules) ∙ ap₂ with_subcommand replay_is (ap top serve_is) in
    let checked_is = c.in_ok-subcommand-4.ensures.shape (search rules) ∙ ap₂ with_subcommand served_is (ap top c.new-9.ensures.app) in
    IfOk-weaker c.subcommand-5.result _ _ (λ m h. h.shape (search rules) ∙ ap₂ with_subcommand checked_is (ap top bench_is)) c.subcommand-5.ensures
