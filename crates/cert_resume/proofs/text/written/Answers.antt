use Rattle.std.proofs.Common.{◌≡◌, ◌++◌, ◌∷◌, [], List, ℕ, length, ap, ◌∙◌, map, subst, arith}
use Rattle.cert_read.specs.CertLine.{tree_word, end_word}
use Rattle.cert_read.specs.Views.{line_of}
use Rattle.cert_model.specs.Accepted.{certificate_text}
use Rattle.cover_data.specs.declared.margins.Options.{Options}
use Rattle.cert_resume.specs.Going.{options_now}
use Rattle.cert_resume.specs.Text.{header_lines}
use Rattle.cert_resume.proofs.Texts.{all_parts}
use Rattle.cert_resume.proofs.text.written.Goals as goal

pub returns-clause-text : goal.returns-clause-text
returns-clause-text c =
    let g = c.args.going.now in
    all_parts c.new-text.result.items (certificate_text (header_lines (options_now c.args.options.now g) (length g.lemmas.items))) (certificate_text (map line_of c.args.lemma_lines.now)) g.learned.items (certificate_text (tree_word ∷ [])) g.main.items
    (certificate_text (end_word ∷ [])) c.append_header.new.text.items c.append_lines.new.text.items c.extend_from_slice.new.self.items c.append_line.new.text.items c.extend_from_slice-2.new.self.items c.append_line-2.new.text.items
    c.new-text.ensures.items (subst (λ (n : ℕ). c.append_header.new.text.items ≡ c.new-text.result.items ++ certificate_text (header_lines (options_now c.args.options.now g) n)) (omega (arith, c.len.ensures, c.args.going.now.lemmas.ok.0))
    (subst (λ (u : Options). c.append_header.new.text.items ≡ c.new-text.result.items ++ certificate_text (header_lines u c.len.result)) c.in_version-options.ensures c.in_ok-append_header.ensures)) c.in_ok-append_lines.ensures
    (c.in_ok-extend_from_slice.ensures.items ∙ ap (λ (t : List ℕ). c.append_lines.new.text.items ++ t) c.deref.ensures.value) c.in_ok-append_line.ensures
    (c.in_ok-extend_from_slice-2.ensures.items ∙ ap (λ (t : List ℕ). c.append_line.new.text.items ++ t) c.deref-2.ensures.value) c.in_ok-append_line-2.ensures
