-- A Select expression that the reader gives is one of the grammar.
use Rattle.std.proofs.Common.{◌≡◌, ℕ, Bool, true, false, List, [], ◌∷◌, Option, Some, None, refl, ap, subst, ◌∙◌}
use Rattle.std.proofs.lemmas.Bool.{false≢true}
use Rattle.sdb_parse.specs.declared.expr.Expr.{Expr}
use Rattle.sdb_parse.specs.declared.joint.Joint.TheVariants as joint
use Rattle.sdb_parse.specs.declared.select.Output.{Output}
use Rattle.sdb_parse.specs.declared.select.Output.TheVariants as output
use Rattle.sdb_parse.specs.declared.select.Select.{Select}
use Rattle.sdb_parse.specs.declared.select.Sort.{Sort}
use Rattle.sdb_parse.specs.declared.select.SortKey.{SortKey}
use Rattle.sdb_parse.specs.declared.select.SortKey.TheVariants as key
use Rattle.sdb_parse.specs.declared.sign.Sign.TheVariants as sign
use Rattle.sdb_parse.specs.declared.term.Term.{Term}
use Rattle.sdb_parse.specs.Reading.{attr_at, expect, item_name_at, listed, name_at, nothing_left, sees, sees_call, text_at}
use Rattle.sdb_parse.specs.Conditions.{joined_at}
use Rattle.sdb_parse.specs.Grammar.{IsAttr, most_depth, limit_of, IsLimit, no_limit, limited, IsKey, by_attr, by_item_name, IsDirected, unsaid, upwards, downwards, IsSorted, no_sort, sorted, IsFiltered, no_condition, filtered, IsOutput, all, names, count, attrs, IsSelect, select}
use Rattle.sdb_parse.specs.Lines.{condition_at, count_at, direction_at, key_at, limit_at, limited_to, output_at, select_at, sort_at}
use Rattle.sdb_parse.proofs.SoundLemmas.{Got, not_none, same_read, done, on_chain, on_if, on_expect, on_text, attr_sound, name_sound, item_name_sound, listing_sound}
use Rattle.sdb_parse.proofs.ConditionSound.{joined_sound}

on_nothing : (C : List Term → Type 0) (ts : List Term) → nothing_left ts ≡ true → C [] → C ts
unfolding nothing_left
on_nothing C [] e c = c
on_nothing C (t ∷ ts) e c = absurd (false≢true e)

count_sound : (ts : List Term) (rest : List Term) (u : Unit {0}) → count_at ts ≡ Some (u, rest) → IsOutput ts output.Count rest
unfolding count_at
count_sound ts rest u e =
    on_chain (expect sign.Count ts) _ u rest e (λ u1 a got1 next1. on_chain (expect sign.Open a) _ u rest next1 (λ u2 b got2 next2. on_chain (expect sign.Star b) _ u rest next2 (λ u3 c got3 got4.
    on_expect (λ l. IsOutput l output.Count rest) sign.Count ts a u1 got1 (λ f is_f. on_expect (λ l. IsOutput (f ∷ l) output.Count rest) sign.Open a b u2 got2 (λ o is_o.
    on_expect (λ l. IsOutput (f ∷ o ∷ l) output.Count rest) sign.Star b c u3 got3 (λ s is_s. on_expect (λ l. IsOutput (f ∷ o ∷ s ∷ l) output.Count rest) sign.Close c rest u got4 (λ p is_p.
    count f o s p rest is_f is_o is_s is_p)))))))

output_sound : (ts : List Term) (out : Output) (rest : List Term) → output_at ts ≡ Some (out, rest) → IsOutput ts out rest
unfolding output_at
output_sound ts out rest e = on_if {X = Got Output} (sees sign.Star ts) _ _ (Some (out, rest)) e
    (λ _ next. on_chain (expect sign.Star ts) _ out rest next (λ u mid got1 got2. done (IsOutput ts) output.All out mid rest got2
    (on_expect (λ l. IsOutput l output.All mid) sign.Star ts mid u got1 (λ t is_t. all t mid is_t))))
    (λ _ next. on_if {X = Got Output} (sees_call sign.ItemName ts) _ _ (Some (out, rest)) next
    (λ _ got. on_chain (item_name_at ts) _ out rest got (λ u mid got1 got2. done (IsOutput ts) output.Names out mid rest got2 (names ts mid (item_name_sound ts u mid got1))))
    (λ _ next'. on_if {X = Got Output} (sees_call sign.Count ts) _ _ (Some (out, rest)) next'
    (λ _ got. on_chain (count_at ts) _ out rest got (λ u mid got1 got2. done (IsOutput ts) output.Count out mid rest got2 (count_sound ts mid u got1)))
    (λ _ got. on_chain (listed sign.Comma attr_at ts) _ out rest got (λ ns mid got1 got2.
    done (IsOutput ts) (output.Listed ns) out mid rest got2 (attrs ts ns mid (listing_sound sign.Comma attr_at IsAttr attr_sound ts ns mid got1))))))

on_limited : {C : Type 0} (o limit : Option ℕ) (mid rest : List Term) → limited_to o mid ≡ Some (limit, rest) → ((n : ℕ) → o ≡ Some n → Some n ≡ limit → mid ≡ rest → C) → C
on_limited None limit mid rest e k = absurd (not_none {A = Option ℕ × List Term} (limit, rest) e)
on_limited (Some n) limit mid rest e k =
    k n refl (ap (λ (p : Option ℕ × List Term). p.0) (same_read (Some n) limit mid rest e)) (ap (λ (p : Option ℕ × List Term). p.1) (same_read (Some n) limit mid rest e))

limit_sound : (ts : List Term) (limit : Option ℕ) (rest : List Term) → limit_at ts ≡ Some (limit, rest) → nothing_left rest ≡ true → IsLimit ts limit
unfolding limit_at
limit_sound ts limit rest e last = on_if {X = Got (Option ℕ)} (sees sign.Limit ts) _ _ (Some (limit, rest)) e
    (λ _ next. on_chain (expect sign.Limit ts) _ limit rest next (λ u a got1 next1. on_chain (text_at sign.Digits a) _ limit rest next1 (λ v b got2 next2.
    on_limited (limit_of v) limit b rest next2 (λ n is same left.
    subst (IsLimit ts) same
    (on_expect (λ l. IsLimit l (Some n)) sign.Limit ts a u got1 (λ w is_w.
    on_text (λ l x. limit_of x ≡ Some n → nothing_left b ≡ true → IsLimit (w ∷ l) (Some n)) sign.Digits a b v got2
    (λ d is_d so ended. on_nothing (λ l. IsLimit (w ∷ d ∷ l) (Some n)) b ended (limited w d n is_w is_d so)) is (ap nothing_left left ∙ last)))))))
    (λ _ none. done (λ l r. nothing_left r ≡ true → IsLimit ts l) None limit ts rest none (λ ended. on_nothing (λ l. IsLimit l None) ts ended no_limit) last)

key_sound : (ts : List Term) (by : SortKey) (rest : List Term) → key_at ts ≡ Some (by, rest) → IsKey ts by rest
unfolding key_at
key_sound ts by rest e = on_if {X = Got SortKey} (sees_call sign.ItemName ts) _ _ (Some (by, rest)) e
    (λ _ next. on_chain (item_name_at ts) _ by rest next (λ u mid got1 got2. done (IsKey ts) key.ItemName by mid rest got2 (by_item_name ts mid (item_name_sound ts u mid got1))))
    (λ _ next. on_chain (attr_at ts) _ by rest next (λ name mid got1 got2. done (IsKey ts) (key.Attr name) by mid rest got2 (by_attr ts name mid (attr_sound ts name mid got1))))

direction_sound : (ts : List Term) (down : Bool) (rest : List Term) → direction_at ts ≡ Some (down, rest) → IsDirected ts down rest
unfolding direction_at
direction_sound ts down rest e = on_if {X = Got Bool} (sees sign.Asc ts) _ _ (Some (down, rest)) e
    (λ _ next. on_chain (expect sign.Asc ts) _ down rest next (λ u mid got1 got2. done (IsDirected ts) false down mid rest got2
    (on_expect (λ l. IsDirected l false mid) sign.Asc ts mid u got1 (λ t is_t. upwards t mid is_t))))
    (λ _ next. on_if {X = Got Bool} (sees sign.Desc ts) _ _ (Some (down, rest)) next
    (λ _ next'. on_chain (expect sign.Desc ts) _ down rest next' (λ u mid got1 got2. done (IsDirected ts) true down mid rest got2
    (on_expect (λ l. IsDirected l true mid) sign.Desc ts mid u got1 (λ t is_t. downwards t mid is_t))))
    (λ _ got. done (IsDirected ts) false down ts rest got (unsaid ts)))

sort_sound : (ts : List Term) (sort : Option Sort) (rest : List Term) (limit : Option ℕ) → sort_at ts ≡ Some (sort, rest) → IsLimit rest limit → IsSorted ts sort limit
unfolding sort_at
sort_sound ts sort rest limit e is_limit = on_if {X = Got (Option Sort)} (sees sign.Order ts) _ _ (Some (sort, rest)) e
    (λ _ next. on_chain (expect sign.Order ts) _ sort rest next (λ u a got1 next1. on_chain (expect sign.By a) _ sort rest next1 (λ u' b got2 next2.
    on_chain (key_at b) _ sort rest next2 (λ by c got3 next3. on_chain (direction_at c) _ sort rest next3 (λ down d got4 got5.
    done (λ s r. IsLimit r limit → IsSorted ts s limit) (Some (record { by = by; down = down })) sort d rest got5
    (λ ends. on_expect (λ l. IsSorted l (Some (record { by = by; down = down })) limit) sign.Order ts a u got1 (λ o is_o.
    on_expect (λ l. IsSorted (o ∷ l) (Some (record { by = by; down = down })) limit) sign.By a b u' got2 (λ y is_y.
    sorted o y b c d by down limit is_o is_y (key_sound b by c got3) (direction_sound c down d got4) ends))) is_limit)))))
    (λ _ none. done (λ s r. IsLimit r limit → IsSorted ts s limit) None sort ts rest none (λ ends. no_sort ts limit ends) is_limit)

condition_sound : (ts : List Term) (cond : Option Expr) (rest : List Term) (sort : Option Sort) (limit : Option ℕ) → condition_at ts ≡ Some (cond, rest) → IsSorted rest sort limit → IsFiltered ts cond sort limit
unfolding condition_at
condition_sound ts cond rest sort limit e is_sorted = on_if {X = Got (Option Expr)} (sees sign.Where ts) _ _ (Some (cond, rest)) e
    (λ _ next. on_chain (expect sign.Where ts) _ cond rest next (λ u a got1 next1. on_chain (joined_at joint.Or most_depth a) _ cond rest next1 (λ f b got2 got3.
    done (λ c r. IsSorted r sort limit → IsFiltered ts c sort limit) (Some f) cond b rest got3
    (λ ends. on_expect (λ l. IsFiltered l (Some f) sort limit) sign.Where ts a u got1 (λ w is_w. filtered w a b f sort limit is_w (joined_sound most_depth a f b got2) ends)) is_sorted)))
    (λ _ none. done (λ c r. IsSorted r sort limit → IsFiltered ts c sort limit) None cond ts rest none (λ ends. no_condition ts sort limit ends) is_sorted)

pub select_sound : (ts : List Term) (s : Select) (rest : List Term) → select_at ts ≡ Some (s, rest) → IsSelect ts s
unfolding select_at
select_sound ts s rest e =
    on_chain (expect sign.Select ts) _ s rest e (λ u a got1 next1. on_chain (output_at a) _ s rest next1 (λ out b got2 next2. on_chain (expect sign.From b) _ s rest next2 (λ u' c got3 next3.
    on_chain (name_at c) _ s rest next3 (λ domain d got4 next4. on_chain (condition_at d) _ s rest next4 (λ cond f got5 next5. on_chain (sort_at f) _ s rest next5 (λ sort g got6 next6.
    on_chain (limit_at g) _ s rest next6 (λ limit h got7 next7.
    on_if {X = Got Select} (nothing_left h) _ None (Some (s, rest)) next7
    (λ last got8. done (λ t r. IsSelect ts t) (record { output = out; domain = domain; cond = cond; sort = sort; limit = limit }) s h rest got8
    (on_expect (λ l. IsSelect l (record { output = out; domain = domain; cond = cond; sort = sort; limit = limit })) sign.Select ts a u got1 (λ w is_w.
    on_expect (λ l. IsOutput a out l → IsSelect (w ∷ a) (record { output = out; domain = domain; cond = cond; sort = sort; limit = limit })) sign.From b c u' got3 (λ p is_p is_out.
    select w p a c d out domain cond sort limit is_w is_out is_p (name_sound c domain d got4)
    (condition_sound d cond f sort limit got5 (sort_sound f sort g limit got6 (limit_sound g limit h got7 last)))) (output_sound a out b got2))))
    (λ _ none. absurd (not_none {A = Select × List Term} (s, rest) none)))))))))
