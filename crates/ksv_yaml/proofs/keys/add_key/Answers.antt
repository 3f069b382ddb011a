-- The set has one key more.
use Rattle.ksv_yaml.proofs.Common.{ℕ, Bool, true, cond, List, sym, ap, ◌∙◌, bytes_eq, is_among}
use Rattle.ksv_yaml.proofs.Distinct.{among_push}
use Rattle.ksv_yaml.proofs.keys.add_key.Goals as goal

pub returns-clause-holds : goal.returns-clause-holds
returns-clause-holds c seen h = record {
  has = λ q. c.in_ok-insert.ensures.updates.0 q
      ∙ ap (λ (b : Bool). cond (bytes_eq c.in_ok-copy.copy.items q.items) true b) (h.has q)
      ∙ ap (λ (k : List ℕ). cond (bytes_eq k q.items) true (is_among q.items seen)) c.in_ok-copy.ensures.items
      ∙ sym (among_push q.items c.args.key.now seen);
}
