-- What the walks of the counter share: a struct without bytes is made of nothing.
use Rattle.std.proofs.Common.{List, [], ◌∷◌, refl}
use seplogic.Ra.Ura.{Ura}
use mir.Val.{Val, vstruct, vnil}
use types.Logic.{Logic}
use types.Kit.{Goal, Step, step, Item, ‵, ◌$◌, fjoin, fpack, feq_i}
use denote.RattleType.{RattleType, Valss}
use denote.Steps.{nothing}
use denote.Struct.Struct.{Struct, within}

-- the machine's value of a struct without fields
abbrev pub no_fields : Val
no_fields = vstruct vnil

abbrev pub Fieldless : RattleType
Fieldless = Struct (record { name = []; args = []; types = []; fields = [] })

-- one may be made at any time
pub fieldless_made : {M : Type 1} {𝓤 : Ura M} {𝓛 : Logic 𝓤} {K : Type 0} {Γ : List (Item 𝓤)} {G : Goal 𝓤 𝓛.H}
    → K → Step K 𝓛 (‵ (Fieldless.own_val tt (no_fields ∷ [])) ∷ Γ) G Γ G
fieldless_made key = step (λ rest.
    nothing key $ feq_i key (List Val) (no_fields ∷ []) (no_fields ∷ []) refl $ fjoin key $
    fpack key (Valss []) (within (record { name = []; args = []; types = []; fields = [] }) tt (no_fields ∷ [])) tt $ rest)
