-- Values of JSON as data.
use Rattle.std.proofs.Common.{◌≡◌, ◌∙◌, List, String, Vec, map, BTreeMap, Global, string_bytes, string_cmp, ap}
use Rattle.std.specs.BTreeMap.{insert_entry}
use Rattle.serde_json.specs.Data.{array, object, put}
use Rattle.serde_json.specs.View.{items_of, members_view, view}
use Rattle.serde_json.specs.declared.value.Value.{Value, Array, Object}
use Rattle.serde_json.proofs.Views.{members_view-insert_entry, view-Array, view-Object}

pub member_put : (es fs : List (String Global × Value)) (k : String Global) (v : Value) → fs ≡ insert_entry string_cmp es k v
    → members_view fs ≡ put (string_bytes k) (view v) (members_view es)
member_put es fs k v is = ap members_view is ∙ members_view-insert_entry es k v

pub object_view : (m : BTreeMap (String Global) Value) → view (Object m) ≡ object (members_view m.entries)
object_view m = view-Object m

pub array_view : (v : Vec Value Global) → view (Array v) ≡ array (items_of (map view v.items))
array_view v = view-Array v
