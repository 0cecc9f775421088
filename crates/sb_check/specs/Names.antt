-- What a name stands for. Sources, services, lets and stores share one space of names.
use Rattle.std.specs.Prelude.{ℕ, ◌+◌, Bool, false, ◌||◌, List, [], ◌∷◌, Option, Some, None, option_map, is_some, if◌then◌else◌, bytes_eq}
use Rattle.std.specs.List.{list_any}
use Rattle.sb_types.specs.ValueType.{records}
use Rattle.sb_terms.specs.declared.flow.Flow.TheVariants as flow
use Rattle.sb_check.specs.Declarations.{Declarations, Source, Service, Let, Store, TypedFlow}

-- the first of this name, with its number, the first of all having this number
abbrev pub found_from : {A : Type 0} → (A → List ℕ) → ℕ → List ℕ → List A → Option (ℕ × A)
found_from name_of number name [] = None
found_from name_of number name (a ∷ as') =
    if bytes_eq name (name_of a) then Some (number, a) else found_from name_of (number + 1) name as'

abbrev pub found : {A : Type 0} → (A → List ℕ) → List ℕ → List A → Option (ℕ × A)
found name_of = found_from name_of 0

abbrev pub source_named : Declarations → List ℕ → Option (ℕ × Source)
source_named d name = found (λ s. s.name) name d.sources

abbrev pub service_named : Declarations → List ℕ → Option (ℕ × Service)
service_named d name = found (λ s. s.name) name d.services

abbrev pub let_named : Declarations → List ℕ → Option (ℕ × Let)
let_named d name = found (λ s. s.name) name d.lets

abbrev pub store_named : Declarations → List ℕ → Option (ℕ × Store)
store_named d name = found (λ s. s.name) name d.stores

-- the name is declared
abbrev pub is_declared : Declarations → List ℕ → Bool
is_declared d name =
    is_some (source_named d name) || (is_some (service_named d name)
    || (is_some (let_named d name) || is_some (store_named d name)))

-- a name stands twice among these
abbrev pub has_twins : List (List ℕ) → Bool
has_twins [] = false
has_twins (name ∷ names) = list_any (bytes_eq name) names || has_twins names

-- the stream of a source gives each record once
abbrev pub source_flow : ℕ × Source → TypedFlow
source_flow s = record { flow = flow.Source s.0; type = records s.1.fields; width = 1 }

abbrev pub let_flow : ℕ × Let → TypedFlow
let_flow s = record { flow = flow.Let s.0; type = s.1.stream.type; width = s.1.stream.width }

abbrev pub or_else : {A : Type 0} → Option A → Option A → Option A
or_else (Some a) b = Some a
or_else None b = b

-- the stream of this name is a source's or a let's
abbrev pub stream_named : Declarations → List ℕ → Option TypedFlow
stream_named d name =
    or_else (option_map source_flow (source_named d name)) (option_map let_flow (let_named d name))
