mod BackLaws
mod CloseLaws
mod CrewLaws
mod ListLaws
mod RunLaws
mod WorkLaws
