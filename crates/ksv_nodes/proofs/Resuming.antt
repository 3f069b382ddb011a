-- The laws of runs, for a run from its beginning.
use Rattle.ksv_nodes.proofs.Common.{◌≡◌, ℕ, ◌≤◌, ◌<◌, List, [], length, Result, AllByRecursion, AgreeOn, Trail, Fault, Given, Node, Rule}
use Rattle.ksv_basics.specs.Plan.{IsEnded}
use Rattle.ksv_bytes.specs.Uses.{CanUse}
use Rattle.ksv_nodes.specs.Turning.{fresh}
use Rattle.ksv_nodes.specs.Bounds.{NodesAtMost}
use Rattle.ksv_nodes.specs.Laws.{resumed, used, ran_on, asked, NeedsNext, MeetsTruth}
use Rattle.ksv_nodes.proofs.Truth.{ends, needs}
use Rattle.ksv_nodes.proofs.Local.{local}
use Rattle.ksv_nodes.proofs.Ranges.{within}
use Rattle.ksv_nodes.proofs.Bounds.{enough}

needs_next : (met : Node → Result Given Fault) (here : Trail) (bytes : List ℕ) (rule : Rule Given) (i : ℕ) → i < length (asked met here bytes rule)
    → NeedsNext met here bytes rule i
needs_next met here bytes rule i h =
    let next = needs met here bytes rule i [] h in
    record { node = next.node; is_next = next.is_next; before = next.used; after = next.more; ran = next.ran; begins = next.begins }

pub meets_truth : (met : Node → Result Given Fault) (here : Trail) (bytes : List ℕ) (rule : Rule Given) → MeetsTruth met here bytes rule
meets_truth met here bytes rule = record { ends = λ more. ends met here bytes rule more []; goes_on = needs_next met here bytes rule }

pub is_local : {A : Type 0} (rule : Rule A) (here : Trail) (bytes others : List ℕ) (replies : List (Result Given Fault))
    → AllByRecursion (AgreeOn bytes others) (used (resumed rule here bytes replies))
    → resumed rule here others replies ≡ ran_on others (resumed rule here bytes replies)
is_local rule here bytes others replies agree = local others rule (fresh here bytes replies) agree

pub fits : {A : Type 0} (rule : Rule A) (here : Trail) (bytes : List ℕ) (replies : List (Result Given Fault))
    → AllByRecursion (CanUse bytes) (used (resumed rule here bytes replies))
fits rule here bytes replies = within rule (fresh here bytes replies) tt

pub is_bounded : {A : Type 0} (n : ℕ) (rule : Rule A) (here : Trail) (bytes : List ℕ) (replies : List (Result Given Fault)) → NodesAtMost n rule
    → n ≤ length replies → IsEnded (resumed rule here bytes replies)
is_bounded n rule here bytes replies few long = enough n rule (fresh here bytes replies) few long
