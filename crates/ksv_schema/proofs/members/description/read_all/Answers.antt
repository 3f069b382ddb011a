use Rattle.ksv_schema.proofs.Common.{◌∙◌, List, ap, distinct_behind, declared, Member, each_from, members}
use Rattle.ksv_schema.specs.Description.{all_members}
use Rattle.ksv_schema.proofs.Enums.{each_enum_words}
use Rattle.ksv_schema.proofs.members.description.read_all.Goals as goal

pub returns-clause-words : goal.returns-clause-words
unfolding all_members
returns-clause-words c =
    c.in_ok-enums.ensures.words ∙ ap (distinct_behind c.all_members.new.reader.names) (each_enum_words _) ∙ c.in_ok-kinds.ensures.words
    ∙ ap (λ (ms : List (List Member)). distinct_behind c.args.reader.now.names (each_from (members (declared c.args.scopes.now)) 0 ms).words) c.members.ensures
