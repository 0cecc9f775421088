-- What the statements of a program declare.
use Rattle.std.specs.Prelude.{ℕ, List, [], map}
use Rattle.sb_types.specs.ValueType.{ValueType, Fields}
use Rattle.sb_types.specs.TyView.{type_of, view_fields}
use Rattle.sb_kind.specs.Monoids.{Monoid}
use Rattle.sb_kind.specs.KindView.{monoid_of}
use Rattle.sb_terms.specs.declared.flow.Flow.{Flow}
use Rattle.sb_check.specs.declared.declarations.SourceDecl.{SourceDecl}
use Rattle.sb_check.specs.declared.declarations.ServiceDecl.{ServiceDecl}
use Rattle.sb_check.specs.declared.declarations.Streamed.{Streamed}
use Rattle.sb_check.specs.declared.declarations.LetDecl.{LetDecl}
use Rattle.sb_check.specs.declared.declarations.StoreDecl.{StoreDecl}
use Rattle.sb_check.specs.declared.declarations.Declared.{Declared}

-- a stream, the type of its values, and how many of them a record gives at most
pub record TypedFlow : Type 0 where
  pub flow : Flow
  pub type : ValueType
  pub width : ℕ

pub record Source : Type 0 where
  pub name : List ℕ
  pub fields : Fields

-- a service has at most one value for each key
pub record Service : Type 0 where
  pub name : List ℕ
  pub key : ValueType
  pub value : ValueType

pub record Let : Type 0 where
  pub name : List ℕ
  pub stream : TypedFlow

-- a store: the types of its keys and of the values that it takes, its monoid, and what feeds it
pub record Store : Type 0 where
  pub name : List ℕ
  pub key : ValueType
  pub value : ValueType
  pub monoid : Monoid
  pub flow : Flow

-- each kind in the program's order: the number of one is its place there, from 0
pub record Declarations : Type 0 where
  pub sources : List Source
  pub services : List Service
  pub lets : List Let
  pub stores : List Store

abbrev pub nothing : Declarations
nothing = record { sources = []; services = []; lets = []; stores = [] }

-- ---- what contracts see

abbrev pub source_of : SourceDecl → Source
source_of s = record { name = s.name; fields = view_fields s.fields }

abbrev pub service_of : ServiceDecl → Service
service_of s = record { name = s.name; key = type_of s.key; value = type_of s.value }

abbrev pub streamed_of : Streamed → TypedFlow
streamed_of s = record { flow = s.flow; type = type_of s.ty; width = s.width }

abbrev pub let_of : LetDecl → Let
let_of s = record { name = s.name; stream = streamed_of s.stream }

abbrev pub store_of : StoreDecl → Store
store_of s = record {
  name = s.name;
  key = type_of s.key;
  value = type_of s.value;
  monoid = monoid_of s.kind;
  flow = s.flow;
}

abbrev pub declarations_of : Declared → Declarations
declarations_of d = record {
  sources = map source_of d.sources;
  services = map service_of d.services;
  lets = map let_of d.lets;
  stores = map store_of d.stores;
}
