use Rattle.std.proofs.Common.{◌≡◌, ◌+◌, ◌-◌, ◌∙◌, sym, ap, refl, length, unwrap_or}
use Rattle.std.specs.BTreeMap.{insert_entry}
use Rattle.sdb_base.specs.Texts.{text_cmp}
use Rattle.sdb_base.specs.Entries.{found}
use Rattle.sdb_domain.specs.declared.names.Names.{Names}
use Rattle.sdb_domain.specs.declared.names.NameWas.{NameWas}
use Rattle.sdb_domain.specs.Keyed.{unwound}
use Rattle.sdb_domain.specs.Names.{count_of, counted_weight, name_undone}
use Rattle.sdb_domain.proofs.NameLemmas.{noted, set_noted, tally_set}
use Rattle.sdb_domain.proofs.names.set_count.Goals as goal

pub returns-in_err-set-clause-back : goal.returns-in_err-set-clause-back
returns-in_err-set-clause-back c =
    let names : Names = c.args.names.now in
    let was : NameWas = record { name = c.in_ok-copy.field-0; count = c.args.was; number = names.number; bytes = names.bytes } in
    ap (λ l. unwound name_undone (record { counts = l; number = names.number; bytes = names.bytes }) c.push.new.self.items) c.in_err-set.ensures.err
    ∙ noted names c.args.log.now.items c.push.new.self.items was c.in_ok-push.ensures.items (c.requires ∙ ap (found text_cmp names.counts) (sym c.in_ok-copy.ensures)) refl refl

pub returns-clause-tallied : goal.returns-clause-tallied
returns-clause-tallied c =
    let names : Names = c.args.names.now in
    let next : Names = record { counts = c.set.new.self; number = c.in-Some.number; bytes = c.in-Some-moved.bytes } in
    let old_is : c.unwrap_or-old.result ≡ count_of names.counts c.args.name.now = c.unwrap_or-old.ensures ∙ ap (λ o. unwrap_or o 0) c.requires in
    let old_one : c.if_counted.result ≡ counted_weight (count_of names.counts c.args.name.now) 1 = c.if_counted.ensures ∙ ap (λ n. counted_weight n 1) old_is in
    let old_bytes : c.if_counted-3.result ≡ counted_weight (count_of names.counts c.args.name.now) (length c.args.name.now) = c.if_counted-3.ensures ∙ (λ i. counted_weight (old_is i) (length (c.as_str.ensures.value i))) in
    let new_bytes : c.if_counted-4.result ≡ counted_weight c.args.count (length c.args.name.now) = c.if_counted-4.ensures ∙ ap (λ l. counted_weight c.args.count (length l)) c.as_str.ensures.value in
    tally_set names next c.args.name.now c.args.count c.in_ok-set.ensures.ok
    (c.in-Some.ensures.1 ∙ (λ i. names.number - old_one i + c.if_counted-2.ensures i))
    (c.in-Some-moved.ensures.1 ∙ (λ i. names.bytes - old_bytes i + new_bytes i))

pub returns-clause-back : goal.returns-clause-back
returns-clause-back c =
    let names : Names = c.args.names.now in
    let next : Names = record { counts = c.set.new.self; number = c.in-Some.number; bytes = c.in-Some-moved.bytes } in
    let was : NameWas = record { name = c.in_ok-copy.field-0; count = c.args.was; number = names.number; bytes = names.bytes } in
    set_noted names next c.args.count c.args.log.now.items c.push.new.self.items was c.set.ensures.rising
    (c.in_ok-set.ensures.ok ∙ ap (λ k. insert_entry text_cmp names.counts k c.args.count) (sym c.in_ok-copy.ensures))
    c.in_ok-push.ensures.items (c.requires ∙ ap (found text_cmp names.counts) (sym c.in_ok-copy.ensures)) refl refl
