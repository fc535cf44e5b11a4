use Rattle.std.proofs.Common.{◌+◌, ◌≤◌, ◌++◌, length, ◌∙◌, ap, sym, subst}
use Rattle.std.proofs.lemmas.Result.{on_ok_weaker}
use Rattle.sdb_reply.proofs.FramedLemmas.{refused-pieces}
use Rattle.sdb_reply.proofs.parts.append_refused.Goals as goal

pub returns-clause-ok : goal.returns-clause-ok
returns-clause-ok c =
    let pieces =
    refused-pieces c.args.refusal.now c.args.id.now c.args.units _ _ _ _ _ _ _ _ _ _ _ _
    c.before_code.ensures (c.as_bytes.ensures.value ∙ ap (λ f. f.code) c.fault_row-row.ensures.row) c.before_message.ensures
    (c.as_bytes-2.ensures.value ∙ ap (λ f. f.message) c.fault_row-row.ensures.row) c.after_message.ensures (c.as_bytes-3.ensures.value ∙ c.format.ensures.text)
    c.hour_parts-parts.ensures c.before_refused_id.ensures c.id_digits-digits.ensures.conn c.between.ensures c.id_digits-digits.ensures.number c.after_refused_id.ensures in
    on_ok_weaker c.append_all.result (λ written. written ∙ ap (λ l. c.args.out.now.bytes ++ l) pieces) c.append_all.ensures.ok

pub returns-clause-room : goal.returns-clause-room
returns-clause-room c =
    let pieces =
    refused-pieces c.args.refusal.now c.args.id.now c.args.units _ _ _ _ _ _ _ _ _ _ _ _
    c.before_code.ensures (c.as_bytes.ensures.value ∙ ap (λ f. f.code) c.fault_row-row.ensures.row) c.before_message.ensures
    (c.as_bytes-2.ensures.value ∙ ap (λ f. f.message) c.fault_row-row.ensures.row) c.after_message.ensures (c.as_bytes-3.ensures.value ∙ c.format.ensures.text)
    c.hour_parts-parts.ensures c.before_refused_id.ensures c.id_digits-digits.ensures.conn c.between.ensures c.id_digits-digits.ensures.number c.after_refused_id.ensures in
    λ fits. c.append_all.ensures.room (subst (λ l. length l ≤ c.args.out.now.spare) (sym pieces) fits)

pub returns-clause-spare : goal.returns-clause-spare
returns-clause-spare c =
    let pieces =
    refused-pieces c.args.refusal.now c.args.id.now c.args.units _ _ _ _ _ _ _ _ _ _ _ _
    c.before_code.ensures (c.as_bytes.ensures.value ∙ ap (λ f. f.code) c.fault_row-row.ensures.row) c.before_message.ensures
    (c.as_bytes-2.ensures.value ∙ ap (λ f. f.message) c.fault_row-row.ensures.row) c.after_message.ensures (c.as_bytes-3.ensures.value ∙ c.format.ensures.text)
    c.hour_parts-parts.ensures c.before_refused_id.ensures c.id_digits-digits.ensures.conn c.between.ensures c.id_digits-digits.ensures.number c.after_refused_id.ensures in
    on_ok_weaker c.append_all.result (λ left. subst (λ l. c.args.out.now.spare ≤ c.append_all.new.out.spare + length l) pieces left) c.append_all.ensures.spare
