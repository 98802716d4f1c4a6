use Rattle.std.proofs.Common.{◌≡◌, List, get_or, length, ap, ◌∙◌, subst, arith}
use Rattle.ival.specs.declared.domain.Domain.{Domain}
use Rattle.ival.specs.SpaceViews.{domain_of}
use Rattle.cert_read.specs.CertLine.{CertLine}
use Rattle.cert_model.specs.Written.{domain_line}
use Rattle.cert_text.specs.Lines.{HasAppended}
use Rattle.cert_text.proofs.Items.{item_appended, items_appended, map_twice}
use Rattle.cert_text.proofs.parts.append_space.Goals as goal

pub loop-domain-preserved : goal.loop-domain-preserved
loop-domain-preserved c =
    let xs : List Domain = c.args.space.now.axes.items in let i = c.loop-domain.domain-index in let x = c.domain-item.result in
    let same : c.deref-domain-items.result.now ≡ xs = c.deref-domain-items.ensures.value in
    let here : x ≡ get_or xs i x = c.domain-item.is ∙ ap (λ (ys : List Domain). get_or ys i x) same in
    item_appended (λ (d : Domain). domain_line (domain_of d)) xs c.args.text.now.items c.loop-domain.text.items c.append_domain.new.text.items i x
    (omega (arith, c.loop-domain-test.true, ap length same)) here c.loop-domain.invariant c.in_ok-append_domain.ensures

pub returns : goal.returns
returns c =
    let xs : List Domain = c.args.space.now.axes.items in
    let same : c.deref-domain-items.result.now ≡ xs = c.deref-domain-items.ensures.value in
    subst (λ (ls : List CertLine). HasAppended c.args.text.now.items ls c.loop-domain.text.items) (map_twice domain_line domain_of xs)
    (items_appended (λ (d : Domain). domain_line (domain_of d)) xs c.args.text.now.items c.loop-domain.text.items c.loop-domain.domain-index (omega (arith, c.loop-domain-test.false, ap length same)) c.loop-domain.invariant)
