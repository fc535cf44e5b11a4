-- The canonical query, parameter by parameter.
use Rattle.std.proofs.Common.{◌≡◌, ℕ, Bool, true, false, cond, List, [], ◌∷◌, ◌++◌, Bor, map, filter, take, ◌+◌, Some, refl, ap, ◌∙◌}
use Rattle.std.specs.List.{fold}
use Rattle.std.specs.Prelude.{slice_get}
use Rattle.std.specs.Map.Iter.{deref_pair}
use Rattle.std.specs.BTreeMap.{insert_entry}
use Rattle.std.specs.Ordering.{match_ordering}
use Rattle.std.specs.declared.cmp.Ordering.{Ordering}
use Rattle.std.specs.declared.cmp.Ordering.TheVariants.{Less, Equal, Greater}
use Rattle.std.proofs.lemmas.List.{take_more}
use Rattle.std.proofs.lemmas.Option.{get_or_from_slice_get, slice_get_within}
use Rattle.std.proofs.lemmas.List.Elements.{filter-append}
use Rattle.std.proofs.lemmas.List.Sums.{fold-append}
use Rattle.sdb_base.specs.Pairs.{NamedValues}
use Rattle.sdb_base.specs.Texts.{text_cmp}
use Rattle.sdb_sign.specs.Canon.{is_signed_name, rising, signed_params, with_param}

rising-append : (params more : NamedValues) → rising (params ++ more) ≡ fold with_param (rising params) more
unfolding rising
rising-append params more = fold-append with_param [] params more

put_last : (is_signed : Bool) (param : List ℕ × List ℕ) (params : NamedValues) → fold with_param params (cond is_signed (param ∷ []) []) ≡ cond is_signed (with_param params param) params
put_last true param params = refl
put_last false param params = refl

-- one more parameter is put in its place, or it isn't signed
pub signed_params-push : (params : NamedValues) (param : List ℕ × List ℕ) → signed_params (params ++ param ∷ []) ≡ cond (is_signed_name param.0) (with_param (signed_params params) param) (signed_params params)
signed_params-push params param =
    let test = λ (p : List ℕ × List ℕ). is_signed_name p.0 in
    ap rising (filter-append test params (param ∷ []))
    ∙ rising-append (filter test params) (filter test (param ∷ []))
    ∙ put_last (test param) param (rising (filter test params))

-- the parameter at a place goes to those before it
pub signed_params-more : (params : NamedValues) (place : ℕ) (param : List ℕ × List ℕ) → slice_get params place ≡ Some param → signed_params (take (place + 1) params) ≡ cond (is_signed_name param.0) (with_param (signed_params (take place params)) param) (signed_params (take place params))
signed_params-more params place param at =
    ap signed_params (take_more params place param (slice_get_within params place param at) ∙ ap (λ p. take place params ++ p ∷ []) (get_or_from_slice_get params place param param at))
    ∙ signed_params-push (take place params) param

abbrev Lent : Type 0
Lent = Bor (List ℕ) × Bor (List ℕ)

abbrev lent_cmp : Bor (List ℕ) → Bor (List ℕ) → Ordering
lent_cmp a b = text_cmp a.now b.now

map-placed : (o : Ordering) (name value : Bor (List ℕ)) (e : Lent) (es more : List Lent) → map deref_pair (match_ordering o ((name, value) ∷ e ∷ es) ((e.0, value) ∷ es) (e ∷ more)) ≡ match_ordering o ((name.now, value.now) ∷ deref_pair e ∷ map deref_pair es) ((e.0.now, value.now) ∷ map deref_pair es) (deref_pair e ∷ map deref_pair more)
map-placed Less name value e es more = refl
map-placed Equal name value e es more = refl
map-placed Greater name value e es more = refl

-- what a map of lent texts holds after an insert, as texts
pub map-insert_entry : (es : List Lent) (name value : Bor (List ℕ)) → map deref_pair (insert_entry lent_cmp es name value) ≡ with_param (map deref_pair es) (name.now, value.now)
map-insert_entry [] name value = refl
map-insert_entry (e ∷ es) name value =
    map-placed (text_cmp name.now e.0.now) name value e es (insert_entry lent_cmp es name value)
    ∙ ap (λ (more : NamedValues). match_ordering (text_cmp name.now e.0.now) ((name.now, value.now) ∷ deref_pair e ∷ map deref_pair es) ((e.0.now, value.now) ∷ map deref_pair es) (deref_pair e ∷ more)) (map-insert_entry es name value)
