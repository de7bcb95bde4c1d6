mod ItemLaws
mod ListLaws
mod MoveLaws
mod OpenLaws
mod PartLaws
mod ValueLaws
