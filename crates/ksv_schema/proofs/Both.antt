-- Parts that are read one after the other.
use Rattle.ksv_schema.proofs.Common.{◌≡◌, List, refl, sym, ap, ◌∙◌, Option, Some, None, distinct_behind, distinct_append, Fault, noted, Reading, made, both}
use Rattle.ksv_schema.proofs.Common.{seen_fault, IsRead, Reads, paired}
use Rattle.std.proofs.Common.{Result, Ok, Err}
use Rattle.std.specs.Prelude.{option_map}
use Rattle.ksv_schema.specs.declared.values.reader.Reader.{Reader}
use Rattle.ksv_schema.specs.Code.{both_of}
use Rattle.ksv_schema.proofs.Noted.{noted_append}

paired_seen : {X Y A B : Type 0} (v : X → A) (w : Y → B) (one : Option X) (other : Option Y)
    → option_map (λ (p : X × Y). (v p.0, w p.1)) (paired one other) ≡ paired (option_map v one) (option_map w other)
paired_seen v w None other = refl
paired_seen v w (Some x) None = refl
paired_seen v w (Some x) (Some y) = refl

both_read : {X Y A B E : Type 0} (r : Reading A) (s : Reading B) (v : X → A) (w : Y → B) (old mid new : Reader) (one : Option X) (other : Result (Option Y) E)
    (got : Option (X × Y))
    → Ok got ≡ both_of one other → IsRead r (option_map v one) old mid → Reads s w mid new other
    → IsRead (both r s) (option_map (λ (p : X × Y). (v p.0, w p.1)) got) old new
both_read r s v w old mid new one (Err e) got is h k = absurd cc
both_read r s v w old mid new one (Ok other) got is h k =
    let same : got ≡ paired one other = cc in
    record {
      value = ap (option_map (λ (p : _ × _). (v p.0, w p.1))) same ∙ paired_seen v w one other ∙ ap (λ (o : Option _). paired o (option_map w other)) h.value
          ∙ ap (paired r.value) k.value;
      faults = k.faults ∙ ap (λ (o : Option Fault). noted o s.faults) h.faults ∙ sym (noted_append (seen_fault old.least) r.faults s.faults);
      words = k.words ∙ ap (λ (o : List (List _)). distinct_behind o s.words) h.words ∙ sym (distinct_append old.names r.words s.words);
    }

-- what is made of three parts
pub three_read : {X Y Z A B C D E : Type 0} (f : (A × B) × C → D) (r : Reading A) (s : Reading B) (t : Reading C) (u : X → A) (v : Y → B) (w : Z → C)
    (old m1 m2 new : Reader)
    (one : Option X) (other : Result (Option Y) E) (two : Option (X × Y)) (third : Result (Option Z) E) (x : (X × Y) × Z)
    → Ok two ≡ both_of one other → Ok (Some x) ≡ both_of two third → IsRead r (option_map u one) old m1 → Reads s v m1 m2 other → Reads t w m2 new third
    → IsRead (made f (both (both r s) t)) (Some (f ((u x.0.0, v x.0.1), w x.1))) old new
three_read f r s t u v w old m1 m2 new one other two third x e g h k l =
    let i = both_read (both r s) t (λ (p : _ × _). (u p.0, v p.1)) w old m2 new two third (Some x) g (both_read r s u v old m1 m2 one other two e h k) l in
    record { value = ap (option_map f) i.value; faults = i.faults; words = i.words }
